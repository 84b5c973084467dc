use Rattle.std.proofs.Common.{◌&&◌, ◌∙◌, ap, sym, map, filter, w32, FitsSigned}
use Rattle.std.specs.Int.RustNames.{int_lt, int_le}
use Rattle.std.proofs.lemmas.Int.{to_z-of_z}
use Rattle.std.proofs.lemmas.List.Elements.{All-filter}
use Rattle.pl_spec.specs.World.{Event}
use Rattle.pl_spec.proofs.Lists.{filter-map}
use Rattle.pl_adjust.specs.Events.{PutCells, PutsCell, event_of}
use Rattle.pl_adjust.specs.Columns.{events_at}
use Rattle.pl_adjust.proofs.Adjustments.events_between.Goals as goal

pub returns-clause-events : goal.returns-clause-events
returns-clause-events c =
    let after : FitsSigned w32 c.args.after = c.ranges.after in
    let to : FitsSigned w32 c.args.to = c.ranges.to in
    let is_between = λ (e : Event). int_lt c.args.after e.day && int_le e.day c.args.to in
    ap (map event_of) (simp to_z-of_z at c.between.ensures)
    ∙ sym (filter-map is_between event_of c.of_col.result.now)
    ∙ ap (filter is_between) c.of_col.ensures.events

pub returns-clause-cells : goal.returns-clause-cells
returns-clause-cells c =
    let is_between = λ (e : Event). int_lt c.args.after e.day && int_le e.day c.args.to in
    let all : PutCells (events_at c.args.self.now c.args.col) = rw c.of_col.ensures.events at c.of_col.ensures.cells in
    rw (returns-clause-events c) (All-filter is_between PutsCell (events_at c.args.self.now c.args.col) all)
