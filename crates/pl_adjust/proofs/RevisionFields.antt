-- The fields of a record, in plain words.
use Rattle.std.proofs.Common.{◌≡◌, ◌↔◌, ◌==◌, length, Some, refl, eq-eqb, eqb-true}
use Rattle.pl_records.specs.Reading.{Record, field}
use Rattle.pl_records.proofs.RuleTables.{when_some, and_then_some, map_some}
use Rattle.pl_spec.specs.Dates.{date_in}
use Rattle.pl_spec.specs.Decimals.{sid_in}
use Rattle.pl_spec.proofs.DatesRead.{date_in-IsDate, IsDate-date_in}
use Rattle.pl_spec.proofs.SidsRead.{sid_in-decimal, decimal-sid_in}
use Rattle.pl_bars.specs.Bars.{cell_in}
use Rattle.pl_bars.specs.ColumnNames.{column_in}
use Rattle.pl_bars.proofs.BarFields.{IsCellText-cell_in, cell_in-IsCellText}
use Rattle.pl_bars.proofs.ColumnTexts.{column_form}
use Rattle.pl_adjust.specs.declared.revisions.Revision.{Revision}
use Rattle.pl_adjust.specs.Revisions.{revision_in}
use Rattle.pl_adjust.specs.RevisionRules.{IsRevisionRecord}

pub revision_form : (r : Record) (x : Revision) → (revision_in r ≡ Some x) ↔ IsRevisionRecord r x
unfolding revision_in
revision_form r x = (
  there,
  λ h. rw (
    eq-eqb (length r) 5 h.five,
    sid_in-decimal (field r 0) x.sid h.small h.sid,
    date_in-IsDate (field r 1) x.bar_day h.session,
    (column_form (field r 2) x.column).1 h.column,
    cell_in-IsCellText (field r 3) x.value h.value,
    date_in-IsDate (field r 4) x.known h.known,
  ) refl,
)
  where
    there : revision_in r ≡ Some x → IsRevisionRecord r x
    there e =
        let it = when_some (length r == 5) _ x e in
        let s = and_then_some (sid_in (field r 0)) _ x it.1 in
        let d = and_then_some (date_in (field r 1)) _ x s.2 in
        let c = and_then_some (column_in (field r 2)) _ x d.2 in
        let v = and_then_some (cell_in (field r 3)) _ x c.2 in
        let k = map_some (date_in (field r 4)) (λ known. record { sid = s.0; bar_day = d.0; column = c.0; value = v.0; known = known }) x v.2 in
        let n = decimal-sid_in (field r 0) s.0 s.1 in
        rw (← k.2) record {
          five = eqb-true (length r) 5 it.0;
          small = n.0;
          sid = n.1;
          session = IsDate-date_in (field r 1) d.0 d.1;
          column = (column_form (field r 2) c.0).0 c.1;
          value = IsCellText-cell_in (field r 3) v.0 v.1;
          known = IsDate-date_in (field r 4) k.0 k.1;
        }
