use Rattle.std.proofs.Common.{rules, FitsSigned, unsigned_abs}
use Rattle.std.specs.Int.{w128}
use Rattle.std.proofs.lemmas.Int.{to_z-of_z}
use Rattle.pl_spec.proofs.Nearest.{div_round-is_nearest, nearest_is-div_round}
use Rattle.pl_fixed.proofs.RoundingLemmas.{above_zero}
use Rattle.pl_fixed.proofs.rounding.div_round.Goals as goal

pub returns-clause-nearest : goal.returns-clause-nearest
returns-clause-nearest c =
    let fa : FitsSigned w128 c.args.a = c.ranges.a in
    let fb : FitsSigned w128 c.args.b = c.ranges.b in
    let f : FitsSigned w128 c.nearest_quotient.result = search rules in
    let e = simp to_z-of_z at c.nearest_quotient.ensures in
    rw (to_z-of_z w128 _ f, e) (div_round-is_nearest c.args.a (unsigned_abs c.args.b) (above_zero c.args.b c.requires))

pub returns-clause-only : goal.returns-clause-only
returns-clause-only c =
    let fa : FitsSigned w128 c.args.a = c.ranges.a in
    let fb : FitsSigned w128 c.args.b = c.ranges.b in
    let f : FitsSigned w128 c.nearest_quotient.result = search rules in
    let e = simp to_z-of_z at c.nearest_quotient.ensures in
    rw (to_z-of_z w128 _ f, e) (λ q h. nearest_is-div_round c.args.a (unsigned_abs c.args.b) q (above_zero c.args.b c.requires) h)
