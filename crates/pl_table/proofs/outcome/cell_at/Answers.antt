use Rattle.std.proofs.Common.{rules, ◌≤◌, ◌+◌, ◌-◌, ◌*◌, ◌∙◌, ap, length, sym, subst, pos, get_or, arith, FitsSigned, w64}
use Rattle.std.proofs.lemmas.Int.{to_z-of_z}
use Rattle.pl_spec.specs.Rounding.{IsCell}
use Rattle.pl_workspace.specs.Slots.{slot_at}
use Rattle.pl_table.specs.Outcomes.{pipeline_in}
use Rattle.pl_planner.proofs.Pipelines.{output-used}
use Rattle.pl_table.proofs.Tiles as tiles
use Rattle.pl_table.proofs.outcome.cell_at.Goals as goal
use Rattle.pl_table.proofs.outcome.cell_at.Goals.{After-array-cells}

pub low_at-low-requires-clause-used : goal.low_at-low-requires-clause-used
low_at-low-requires-clause-used c =
    let o = c.args.outcome.now in output-used o.asked.world.sessions.now (pipeline_in o) o.asked.plan.now c.requires.outcome.asked.checked c.requires.outcome.asked.plan c.args.term.0 c.requires.output

pub slot-requires : goal.slot-requires
slot-requires c =
    let o = c.args.outcome.now in output-used o.asked.world.sessions.now (pipeline_in o) o.asked.plan.now c.requires.outcome.asked.checked c.requires.outcome.asked.plan c.args.term.0 c.requires.output

pub array-cells-requires : goal.array-cells-requires
array-cells-requires c =
    let o = c.args.outcome.now in let a = c.requires.outcome.arrays c.args.term.0 c.requires.output in
    (a.cells, ap (slot_at o.workspace.now) c.slot.ensures.value ∙ a.live)

-- where the part of the place ends
end : (c : After-array-cells) → c.args.place * (c.args.outcome.now.to + 1 - c.low_at-low.result) + (c.args.outcome.now.to + 1 - c.low_at-low.result) ≤ length c.array-cells.result.now
end c = tiles.part-end c.args.outcome.now c.requires.outcome c.args.term.0 c.requires.output c.args.place c.requires.place c.low_at-low.result c.array-cells.result.now c.low_at-low.ensures.value
    (sym (ap (slot_at c.args.outcome.now.workspace.now) c.slot.ensures.value) ∙ c.array-cells.ensures)

pub overflow_mul-result : goal.overflow_mul-result
overflow_mul-result c = let e = end c in omega (arith, e)

pub overflow_add-result : goal.overflow_add-result
overflow_add-result c = let e = end c in omega (arith, e, c.requires.session.to)

pub bounds-cells-place : goal.bounds-cells-place
bounds-cells-place c = let e = end c in omega (arith, e, c.low_at-low.ensures.within, c.requires.session.from, c.requires.session.to)

pub returns-clause-value : goal.returns-clause-value
returns-clause-value c =
    let o = c.args.outcome.now in
    let fits : FitsSigned w64 (get_or c.array-cells.result.now (c.args.place * (o.to + 1 - c.low_at-low.result) + (c.args.session - c.low_at-low.result)) (pos 0)) = search rules in
    to_z-of_z w64 _ fits
    ∙ tiles.cell-there o c.requires.outcome c.args.term.0 c.requires.output c.args.place c.requires.place c.low_at-low.result c.array-cells.result.now c.low_at-low.ensures.value
    (sym (ap (slot_at o.workspace.now) c.slot.ensures.value) ∙ c.array-cells.ensures) c.args.session c.requires.session.from c.requires.session.to

pub returns-clause-cell : goal.returns-clause-cell
returns-clause-cell c =
    let value = returns-clause-value c in
    subst IsCell (sym value) (tiles.cell-within c.args.outcome.now c.requires.outcome c.args.term.0 c.requires.output c.args.place c.requires.place c.args.session c.requires.session.from c.requires.session.to)
