-- The fields of a record of a number.
use Rattle.std.proofs.Common.{◌≡◌, ◌↔◌, ◌==◌, ◌&&◌, true, length, Some, refl, inl, inr, eq-eqb, eqb-true}
use Rattle.std.proofs.lemmas.Bool.{and_parts}
use Rattle.pl_records.specs.Reading.{Record, field}
use Rattle.pl_records.proofs.RuleTables.{when_some, and_then_some, map_some}
use Rattle.pl_spec.specs.Dates.{IsDay, date_in}
use Rattle.pl_spec.specs.Decimals.{sid_in}
use Rattle.pl_spec.specs.Names.{is_name}
use Rattle.pl_spec.specs.Numbers.{NumberRow}
use Rattle.pl_spec.specs.Rounding.{IsCell}
use Rattle.pl_spec.proofs.DatesRead.{date_in-IsDate, IsDate-date_in}
use Rattle.pl_spec.proofs.DatesWritten.{IsDay-IsDate}
use Rattle.pl_spec.proofs.SidsRead.{sid_in-decimal, decimal-sid_in}
use Rattle.pl_bars.specs.Bars.{cell_in}
use Rattle.pl_bars.specs.Rules.{IsCellText}
use Rattle.pl_bars.proofs.BarFields.{IsCellText-cell_in, cell_in-IsCellText}
use Rattle.pl_numbers.specs.Numbers.{number_in}
use Rattle.pl_numbers.specs.NumberRules.{IsNumberRecord}

pub number_form : (r : Record) (n : NumberRow) → (number_in r ≡ Some n) ↔ IsNumberRecord r n
unfolding number_in
number_form r n = (there, back)
  where
    there : number_in r ≡ Some n → IsNumberRecord r n
    there e =
        let it = when_some (length r == 4 && is_name (field r 0)) _ n e in
        let p = and_parts (length r == 4) (is_name (field r 0)) it.0 in
        let s = and_then_some (sid_in (field r 1)) _ n it.1 in
        let d = and_then_some (date_in (field r 2)) _ n s.2 in
        let v = map_some (cell_in (field r 3)) (λ value. record { name = field r 0; sid = s.0; known = d.0; value = value }) n d.2 in
        let m = decimal-sid_in (field r 1) s.0 s.1 in
        rw (← v.2) record {
          four = eqb-true (length r) 4 p.0;
          name = refl;
          right_name = p.1;
          small = m.0;
          sid = m.1;
          known = IsDate-date_in (field r 2) d.0 d.1;
          value = IsCellText-cell_in (field r 3) v.0 v.1;
        }

    back : IsNumberRecord r n → number_in r ≡ Some n
    back h =
        let m : is_name n.name ≡ true = h.right_name in
        rw (
          eq-eqb (length r) 4 h.four,
          h.name,
          m,
          sid_in-decimal (field r 1) n.sid h.small h.sid,
          date_in-IsDate (field r 2) n.known h.known,
          cell_in-IsCellText (field r 3) n.value h.value,
        ) refl

-- its value is a cell
pub number_cell : (r : Record) (n : NumberRow) → number_in r ≡ Some n → IsCell n.value
number_cell r n e = here ((number_form r n).0 e).value
  where
    here : IsCellText (field r 3) n.value → IsCell n.value
    here (inl empty) = inl empty.1
    here (inr read) = inr read.2.1

-- its day is one of the years 1900 to 2199
pub number_day : (r : Record) (n : NumberRow) → number_in r ≡ Some n → IsDay n.known
number_day r n e = IsDay-IsDate (field r 2) n.known ((number_form r n).0 e).known
