use Rattle.std.proofs.Common.{◌∙◌, ap, sym, length, refl, arith, length-set, true}
use Rattle.pl_planner.specs.Uses.{marked, all_marked}
use Rattle.pl_planner.proofs.Marks.{no-columns, one-marked, column-within}
use Rattle.pl_planner.proofs.uses.mark_columns.Goals as goal

pub loop-i-init : goal.loop-i-init
loop-i-init c = record { marked = ap (all_marked c.args.uses.now c.args.terms) (sym no-columns); size = refl }

pub mark-requires : goal.mark-requires
mark-requires c =
    let l = column-within c.args.checked.now c.requires.checked c.loop-i.i c.column_term.result c.column_term.ensures in
    let s = c.loop-i.invariant.size in
    let r = c.requires.long in
    record { within = omega arith }

pub loop-i-preserved : goal.loop-i-preserved
loop-i-preserved c = record {
  marked = c.mark.ensures ∙ ap (λ us. marked c.args.terms us c.column_term.result.0) c.loop-i.invariant.marked ∙ one-marked c.args.uses.now c.args.terms c.args.checked.now.columns c.loop-i.i c.column_term.result c.column_term.ensures;
  size = ap length c.mark.ensures ∙ length-set c.loop-i.uses c.column_term.result.0 (record { used = true; extra = 0; last = c.args.terms }) ∙ c.loop-i.invariant.size;
}
