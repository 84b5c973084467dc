use Rattle.std.proofs.Common.{◌∙◌, ap, map, w32}
use Rattle.std.specs.Int.RustNames.{int_le}
use Rattle.std.proofs.lemmas.Int.{to_z-of_z}
use Rattle.std.proofs.lemmas.List.Elements.{All-filter}
use Rattle.std.proofs.lemmas.List.Kept.{IsSortedBy-filter}
use Rattle.pl_spec.specs.AsOf.{adjustments_by}
use Rattle.pl_adjust.specs.Rows.{row_of}
use Rattle.pl_adjust.proofs.ByDays.{rows_by-are}
use Rattle.pl_adjust.proofs.Kept.{in_front, front_order}
use Rattle.pl_adjust.proofs.Made.{Puts}
use Rattle.pl_adjust.proofs.Adjustments.cut.Goals as goal

pub of_sorted-requires-clause-sorted : goal.of_sorted-requires-clause-sorted
of_sorted-requires-clause-sorted c =
    let rows = rw (c.deref.ensures.value, c.deref-2.ensures.value, to_z-of_z w32 c.args.day c.ranges.day) at c.in_ok-rows.ensures in
    rw (c.deref-3.ensures.value, rows, rows_by-are c.args.day)
    (IsSortedBy-filter in_front front_order (λ x. int_le x.event.day c.args.day) _ c.self.invariant.0.sorted)

pub of_sorted-requires-clause-cells : goal.of_sorted-requires-clause-cells
of_sorted-requires-clause-cells c =
    let rows = rw (c.deref.ensures.value, c.deref-2.ensures.value, to_z-of_z w32 c.args.day c.ranges.day) at c.in_ok-rows.ensures in
    rw (c.deref-3.ensures.value, rows, rows_by-are c.args.day)
    (All-filter (λ x. int_le x.event.day c.args.day) Puts _ c.self.invariant.0.puts)

pub returns : goal.returns
returns c =
    let rows = rw (c.deref.ensures.value, c.deref-2.ensures.value, to_z-of_z w32 c.args.day c.ranges.day) at c.in_ok-rows.ensures in
    rw c.deref-3.ensures.value at c.in_ok-kept.ensures ∙ ap (map row_of) rows ∙ rows_by-are c.args.day _ _
    ∙ ap (adjustments_by c.args.day) c.self.view_is
