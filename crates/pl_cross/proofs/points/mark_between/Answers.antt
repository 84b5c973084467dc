use Rattle.std.proofs.Common.{rules, pos, w64, to_z, of_z, FitsSigned, get_or, ◌∙◌, ap, ◌*ℤ◌, ◌&&◌}
use Rattle.std.specs.Int.{w128}
use Rattle.std.specs.Int.RustNames.{int_le}
use Rattle.std.proofs.lemmas.Int.{to_z-of_z}
use Rattle.pl_spec.specs.Cells.{truth}
use Rattle.pl_cross.specs.declared.listing.Listed.{Listed}
use Rattle.pl_cross.proofs.Scattering.{marked-more}
use Rattle.pl_cross.proofs.points.mark_between.Goals as goal

abbrev blank : Listed
blank = record { value = pos 0; place = 0 }

pub loop-i-preserved : goal.loop-i-preserved
loop-i-preserved c =
    let fits : FitsSigned w64 c.mark.result = search rules in
    let wide : FitsSigned w128 c.weighted.result = search rules in
    let own : FitsSigned w64 (get_or c.args.group.now c.loop-i.i blank).value = search rules in
    let scaled = simp to_z-of_z at c.weighted.ensures.value in
    let tested = simp to_z-of_z at c.is_between.ensures in
    record {
      long = search rules;
      answers = marked-more (λ e. truth (int_le (to_z w128 (of_z w128 c.args.low)) (e.value *ℤ pos 10000) && int_le (e.value *ℤ pos 10000) (to_z w128 (of_z w128 c.args.high)))) c.args.group.now c.loop-i.answers c.loop-i.i blank c.mark.result fits c.loop-i.invariant.long c.loop-i-test.true c.loop-i.invariant.answers
          (c.mark.ensures ∙ ap truth (tested ∙ ap (λ v. int_le (to_z w128 (of_z w128 c.args.low)) v && int_le v (to_z w128 (of_z w128 c.args.high))) scaled));
    }
