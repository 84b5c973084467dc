use Rattle.std.proofs.Common.{◌≡◌, ◌≤◌, length, map, take}
use Rattle.pl_spec.specs.AsOf.{labels_by}
use Rattle.pl_assets.specs.LabelPlaces.{AreNumbered, row_at, shown_rows}
use Rattle.pl_assets.proofs.labels.rows.LabelRows.cut.Given as goal

abbrev pub invariant-loop-place : goal.invariant-loop-place
invariant-loop-place l = record {
  numbered : AreNumbered l.rows;
  shown : shown_rows l.rows ≡ labels_by l.day (map (row_at l.self.names l.self.texts) (take l.place-index l.self.places.items));
  texts : l.rows.texts ≡ l.self.texts;
  few : length l.rows.places.items ≤ l.place-index;
}
