use Rattle.std.proofs.Common.{rules, FitsSigned, w32}
use Rattle.std.proofs.lemmas.Int.{to_z-of_z}
use Rattle.pl_records.proofs.Readings.{none_read, goes_on, stops, is_done}
use Rattle.pl_records.proofs.Sorts.{AreKeys-more}
use Rattle.pl_assets.specs.LabelPlaces.{key_of, shown_rows}
use Rattle.pl_assets.specs.LabelStarts.{row_from}
use Rattle.pl_assets.proofs.FirstSeen.{texts_next}
use Rattle.pl_assets.proofs.labels.reading.put_rows.Goals as goal

pub rows-init : goal.rows-init
rows-init c = record {
  read = none_read c.requires.none;
  numbered = c.requires.numbered;
  texts = c.requires.texts;
  keys = c.requires.keys;
}

pub returns-in_err-start-clause-exact : goal.returns-in_err-start-clause-exact
returns-in_err-start-clause-exact c =
    stops _ c.rows.invariant.read c.in_ok-next.ensures.ok c.if-branch.true _ _ _ _
    c.from_residual-in_err-start.ensures.1 c.in_err-start.ensures.exact

pub rows-preserved : goal.rows-preserved
rows-preserved c =
    let it = c.in_ok-start.ensures in
    let fits : FitsSigned w32 c.in_ok-start.start.day = search rules in
    let day = to_z-of_z w32 c.in_ok-start.start.day fits in
    let row = rw (c.field.ensures, c.field-in-rows.ensures, day) at c.in_ok-place.ensures.row in
    record {
      read = goes_on c.rows.invariant.read c.in_ok-next.ensures.ok c.if-branch.true it.room it.exact row;
      numbered = c.in_ok-place.ensures.numbered;
      texts = texts_next c.rows.rows.texts c.push.new.self.texts (shown_rows c.rows.rows) (shown_rows c.push.new.self) (row_from c.next.new.self.fields c.in_ok-start.start)
          c.rows.invariant.texts row (rw c.field-in-rows.ensures at c.in_ok-place.ensures.texts);
      keys = rw c.in_ok-place.ensures.place (AreKeys-more key_of c.rows.keys c.insert.new.self c.rows.rows.places.items c.in_ok-place.place c.key_of.result c.key_of.ensures c.rows.invariant.keys c.in_ok-insert.ensures.updates.0);
    }

pub returns-clause-exact : goal.returns-clause-exact
returns-clause-exact c = is_done _ c.rows.invariant.read c.in_ok-next.ensures.ok c.if-branch.false
