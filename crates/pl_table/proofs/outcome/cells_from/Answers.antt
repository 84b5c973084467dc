use Rattle.std.proofs.Common.{◌≡◌, ◌≤◌, ◌+◌, ◌-◌, ◌*◌, ◌∙◌, ap, sym, ℕ, pos, length, get_or, take, drop, arith}
use Rattle.std.proofs.lemmas.List.{length-take-le, length-drop}
use Rattle.pl_table.specs.Outcomes.{pipeline_in}
use Rattle.pl_workspace.specs.Slots.{slot_at}
use Rattle.pl_planner.proofs.Pipelines.{output-used}
use Rattle.pl_table.proofs.Tiles as tiles
use Rattle.pl_table.proofs.outcome.cells_from.Goals as goal
use Rattle.pl_table.proofs.outcome.cells_from.Goals.{After-array-cells}

pub low_at-low-requires-clause-used : goal.low_at-low-requires-clause-used
low_at-low-requires-clause-used c =
    let o = c.args.outcome.now in output-used o.asked.world.sessions.now (pipeline_in o) o.asked.plan.now c.requires.outcome.asked.checked c.requires.outcome.asked.plan c.args.term.0 c.requires.output

pub slot-requires : goal.slot-requires
slot-requires c =
    let o = c.args.outcome.now in output-used o.asked.world.sessions.now (pipeline_in o) o.asked.plan.now c.requires.outcome.asked.checked c.requires.outcome.asked.plan c.args.term.0 c.requires.output

pub returns-clause-each : goal.returns-clause-each
returns-clause-each c j h =
    let o = c.args.outcome.now in
    let low = c.low_at-low.ensures.value in
    let start = c.args.place * (o.to + 1 - c.low_at-low.result) + (c.args.first - c.low_at-low.result) in
    let count : start + c.args.count - start ≡ c.args.count = omega arith in
    ap (λ (n : ℕ). get_or (take n (drop start c.array-cells.result.now)) j (pos 0)) count
    ∙ ap (λ (l : ℕ). get_or (take c.args.count (drop (c.args.place * (o.to + 1 - l) + (c.args.first - l)) c.array-cells.result.now)) j (pos 0)) low
    ∙ tiles.part-at o c.requires.outcome c.args.term.0 c.requires.output c.args.place c.requires.place c.array-cells.result.now (ap (slot_at o.workspace.now) (sym c.slot.ensures.value) ∙ c.array-cells.ensures) c.args.first c.args.count c.requires.first.from c.requires.last j h

pub array-cells-requires : goal.array-cells-requires
array-cells-requires c =
    let o = c.args.outcome.now in let a = c.requires.outcome.arrays c.args.term.0 c.requires.output in
    (a.cells, ap (slot_at o.workspace.now) c.slot.ensures.value ∙ a.live)

-- where the part of the place ends
end : (c : After-array-cells) → c.args.place * (c.args.outcome.now.to + 1 - c.low_at-low.result) + (c.args.outcome.now.to + 1 - c.low_at-low.result) ≤ length c.array-cells.result.now
end c = tiles.part-end c.args.outcome.now c.requires.outcome c.args.term.0 c.requires.output c.args.place c.requires.place c.low_at-low.result c.array-cells.result.now c.low_at-low.ensures.value
    (ap (slot_at c.args.outcome.now.workspace.now) (sym c.slot.ensures.value) ∙ c.array-cells.ensures)

pub overflow_mul-start : goal.overflow_mul-start
overflow_mul-start c = let e = end c in omega (arith, e)

pub overflow_add-start-2 : goal.overflow_add-start-2
overflow_add-start-2 c = let e = end c in omega (arith, e, c.requires.first.to)

pub overflow_add-result : goal.overflow_add-result
overflow_add-result c = let e = end c in omega (arith, e, c.low_at-low.ensures.within, c.requires.first.from, c.requires.last)

pub slice_bounds-result-end : goal.slice_bounds-result-end
slice_bounds-result-end c = let e = end c in omega (arith, e, c.low_at-low.ensures.within, c.requires.first.from, c.requires.last)

pub returns-clause-size : goal.returns-clause-size
returns-clause-size c =
    let cells = c.array-cells.result.now in
    let e = tiles.part-end c.args.outcome.now c.requires.outcome c.args.term.0 c.requires.output c.args.place c.requires.place c.low_at-low.result cells c.low_at-low.ensures.value
    (ap (slot_at c.args.outcome.now.workspace.now) (sym c.slot.ensures.value) ∙ c.array-cells.ensures) in
    let start = c.args.place * (c.args.outcome.now.to + 1 - c.low_at-low.result) + (c.args.first - c.low_at-low.result) in
    length-take-le (start + c.args.count - start) (drop start cells) (omega (arith, e, length-drop start cells, c.low_at-low.ensures.within, c.requires.first.from, c.requires.last))
    ∙ omega arith
