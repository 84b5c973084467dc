-- The fields of a record, in plain words.
use Rattle.std.proofs.Common.{◌≡◌, ◌↔◌, ◌==◌, length, Some, refl, ap, eq-eqb, eqb-true}
use Rattle.std.specs.Result.{result_ok}
use Rattle.pl_records.specs.Reading.{Record, field}
use Rattle.pl_records.proofs.RuleTables.{result_ok-Ok, when_some, and_then_some, map_some}
use Rattle.pl_spec.specs.Dates.{date_in}
use Rattle.pl_spec.specs.Decimals.{sid_in}
use Rattle.pl_spec.proofs.DatesRead.{date_in-IsDate, IsDate-date_in}
use Rattle.pl_spec.proofs.SidsRead.{sid_in-decimal, decimal-sid_in}
use Rattle.pl_fixed.specs.Reading.{read}
use Rattle.pl_fixed.proofs.ReadingLemmas.{read-value}
use Rattle.pl_payouts.specs.declared.reading.Dividend.{Dividend}
use Rattle.pl_payouts.specs.Payouts.{amount_in, dividend_in}
use Rattle.pl_payouts.specs.Rules.{IsDividendRecord}

pub dividend_form : (r : Record) (d : Dividend) → (dividend_in r ≡ Some d) ↔ IsDividendRecord r d
unfolding dividend_in
dividend_form r d = (
  there,
  λ h. rw (
    eq-eqb (length r) 3 h.three,
    sid_in-decimal (field r 0) d.sid h.small h.sid,
    date_in-IsDate (field r 1) d.ex h.ex,
    ap result_ok ((read-value (field r 2) d.amount).1 h.amount),
  ) refl,
)
  where
    there : dividend_in r ≡ Some d → IsDividendRecord r d
    there e =
        let it = when_some (length r == 3) _ d e in
        let s = and_then_some (sid_in (field r 0)) _ d it.1 in
        let x = and_then_some (date_in (field r 1)) _ d s.2 in
        let a = map_some (amount_in (field r 2)) (λ amount. record { sid = s.0; ex = x.0; amount = amount }) d x.2 in
        let n = decimal-sid_in (field r 0) s.0 s.1 in
        rw (← a.2) record {
          three = eqb-true (length r) 3 it.0;
          small = n.0;
          sid = n.1;
          ex = IsDate-date_in (field r 1) x.0 x.1;
          amount = (read-value (field r 2) a.0).0 (result_ok-Ok (read (field r 2)) a.0 a.1);
        }
