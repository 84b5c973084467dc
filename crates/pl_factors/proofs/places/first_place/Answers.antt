use Rattle.std.proofs.Common.{ap, ◌∙◌, FitsSigned, w64, unwrap_or, position}
use Rattle.std.specs.Ordering.{int_eq}
use Rattle.std.proofs.lemmas.Int.{to_z-of_z}
use Rattle.pl_factors.specs.Terms.{first_place}
use Rattle.pl_factors.proofs.places.first_place.Goals as goal

pub returns : goal.returns
unfolding first_place
returns c =
    let fx : FitsSigned w64 c.args.x = c.ranges.x in
    c.unwrap_or.ensures ∙ ap (λ p. unwrap_or p 0) (c.position.ensures ∙ ap (λ z. position (λ y. int_eq y z) c.args.a.now) (to_z-of_z w64 c.args.x fx))
