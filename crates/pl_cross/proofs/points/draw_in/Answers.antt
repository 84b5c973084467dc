use Rattle.std.proofs.Common.{rules, pos, w64, to_z, of_z, FitsSigned, get_or, ◌∙◌, ap}
use Rattle.std.specs.Int.{int_max, int_min}
use Rattle.std.proofs.lemmas.Int.{to_z-of_z}
use Rattle.pl_cross.specs.declared.listing.Listed.{Listed}
use Rattle.pl_cross.proofs.Scattering.{marked-more}
use Rattle.pl_cross.proofs.points.draw_in.Goals as goal

abbrev blank : Listed
blank = record { value = pos 0; place = 0 }

pub loop-i-preserved : goal.loop-i-preserved
loop-i-preserved c =
    let fits : FitsSigned w64 c.max.result = search rules in
    let lesser : FitsSigned w64 c.min.result = search rules in
    let own : FitsSigned w64 (get_or c.args.group.now c.loop-i.i blank).value = search rules in
    let over = simp to_z-of_z at c.max.ensures.value in
    let under = simp to_z-of_z at c.min.ensures.value in
    record {
      long = search rules;
      answers = marked-more (λ e. int_max (to_z w64 (of_z w64 c.args.least)) (int_min (to_z w64 (of_z w64 c.args.greatest)) e.value)) c.args.group.now c.loop-i.answers c.loop-i.i blank c.max.result fits c.loop-i.invariant.long c.loop-i-test.true c.loop-i.invariant.answers
          (over ∙ ap (int_max (to_z w64 (of_z w64 c.args.least))) under);
    }
