use Rattle.std.proofs.Common.{◌≡◌, arith, w32}
use Rattle.std.proofs.lemmas.Int.{to_z-of_z}
use Rattle.std.proofs.lemmas.List.{length-map}
use Rattle.pl_spec.specs.AsOf.{labels_by}
use Rattle.pl_assets.specs.LabelPlaces.{row_at, shown_rows}
use Rattle.pl_assets.proofs.LabelCuts.{once_cut, few_cut, labels_cut}
use Rattle.pl_assets.proofs.LabelTables.{own_keys}
use Rattle.pl_assets.proofs.labels.Labels.cut.Goals as goal

pub order_of-requires-clause-few : goal.order_of-requires-clause-few
order_of-requires-clause-few c =
    let old = c.self.inside.rows in
    let rows = c.in_ok-rows.rows in
    let shown : shown_rows rows ≡ labels_by c.args.day (shown_rows old) = rw (to_z-of_z w32 c.args.day c.ranges.day) at c.in_ok-rows.ensures.rows in
    rw c.deref.ensures.value (omega (arith, few_cut c.args.day old rows c.self.invariant.labels shown, length-map rows.places.items (row_at rows.names rows.texts)))

pub order_of-requires-clause-own : goal.order_of-requires-clause-own
order_of-requires-clause-own c =
    let old = c.self.inside.rows in
    let rows = c.in_ok-rows.rows in
    let shown : shown_rows rows ≡ labels_by c.args.day (shown_rows old) = rw (to_z-of_z w32 c.args.day c.ranges.day) at c.in_ok-rows.ensures.rows in
    rw c.deref.ensures.value (own_keys rows c.in_ok-rows.ensures.numbered (once_cut c.args.day old rows c.self.invariant.labels shown))

pub invariant_of-result : goal.invariant_of-result
invariant_of-result c =
    let old = c.self.inside.rows in
    let rows = c.in_ok-rows.rows in
    let shown : shown_rows rows ≡ labels_by c.args.day (shown_rows old) = rw (to_z-of_z w32 c.args.day c.ranges.day) at c.in_ok-rows.ensures.rows in
    record {
      numbered = c.in_ok-rows.ensures.numbered;
      labels = labels_cut c.args.day old rows c.self.invariant.labels shown c.in_ok-rows.ensures.numbered c.in_ok-rows.ensures.texts;
      found = rw c.deref.ensures.value at c.in_ok-order.ensures;
    }
