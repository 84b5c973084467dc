use Rattle.std.proofs.Common.{arith}
use Rattle.std.proofs.lemmas.List.{length-map}
use Rattle.pl_records.specs.Records.{csv_records}
use Rattle.pl_assets.specs.LabelPlaces.{row_at, shown_rows}
use Rattle.pl_assets.proofs.LabelTables.{own_keys, kept_labels, right_texts}
use Rattle.pl_assets.proofs.LabelsRead.{AreRead-read}
use Rattle.pl_assets.proofs.labels.Labels.read.Goals as goal

pub order_of-requires-clause-few : goal.order_of-requires-clause-few
order_of-requires-clause-few c =
    let rows = c.in_ok-rows.rows in
    let read = AreRead-read c.args.assets.now (csv_records c.args.bytes.now) _ c.in_ok-rows.ensures.exact in
    rw c.deref.ensures.value (omega (arith, read.few, length-map rows.places.items (row_at rows.names rows.texts)))

pub order_of-requires-clause-own : goal.order_of-requires-clause-own
order_of-requires-clause-own c =
    let read = AreRead-read c.args.assets.now (csv_records c.args.bytes.now) _ c.in_ok-rows.ensures.exact in
    rw c.deref.ensures.value (own_keys c.in_ok-rows.rows c.in_ok-rows.ensures.numbered read.once)

pub invariant_of-result : goal.invariant_of-result
invariant_of-result c =
    let read = AreRead-read c.args.assets.now (csv_records c.args.bytes.now) _ c.in_ok-rows.ensures.exact in
    let rows = c.in_ok-rows.rows in
    record {
      numbered = c.in_ok-rows.ensures.numbered;
      labels = kept_labels rows c.in_ok-rows.ensures.numbered read.right read.once read.few (rw c.in_ok-rows.ensures.texts (right_texts (shown_rows rows) read.right));
      found = rw c.deref.ensures.value at c.in_ok-order.ensures;
    }

pub returns-clause-labels : goal.returns-clause-labels
returns-clause-labels c =
    let read = AreRead-read c.args.assets.now (csv_records c.args.bytes.now) _ c.in_ok-rows.ensures.exact in
    let rows = c.in_ok-rows.rows in
    kept_labels rows c.in_ok-rows.ensures.numbered read.right read.once read.few (rw c.in_ok-rows.ensures.texts (right_texts (shown_rows rows) read.right))

pub returns-clause-cols : goal.returns-clause-cols
returns-clause-cols c = (AreRead-read c.args.assets.now (csv_records c.args.bytes.now) _ c.in_ok-rows.ensures.exact).cols
