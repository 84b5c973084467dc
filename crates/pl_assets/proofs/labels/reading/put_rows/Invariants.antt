use Rattle.std.proofs.Common.{◌≡◌, length}
use Rattle.pl_records.specs.Sorted.{AreKeys}
use Rattle.pl_records.proofs.Readings.{AreReadSoFar}
use Rattle.pl_spec.specs.Limits.{most_labels}
use Rattle.pl_assets.specs.Labels.{label_or_rule, texts_of}
use Rattle.pl_assets.specs.LabelPlaces.{AreNumbered, key_of, shown_rows}
use Rattle.pl_assets.proofs.labels.reading.put_rows.Given as goal

abbrev pub invariant-rows : goal.invariant-rows
invariant-rows l = record {
  read : AreReadSoFar 2 most_labels (label_or_rule l.assets) l.fn.records.left l.records (shown_rows l.rows);
  numbered : AreNumbered l.rows;
  texts : l.rows.texts ≡ texts_of (shown_rows l.rows);
  keys : AreKeys key_of l.keys l.rows.places.items;
}

abbrev pub decreases-rows : goal.decreases-rows
decreases-rows l = length l.records.left
