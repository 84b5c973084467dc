-- Payouts that are read: what is kept of all rows, and what a file says, in plain words.
use Rattle.std.proofs.Common.{◌≡◌, ◌↔◌, not, true, false, List, [], ◌∷◌, ◌++◌, Some, Ok, Err, ℤ, pos, ◌<ℤ◌, ◌≤ℤ◌, arith, inr}
use Rattle.std.specs.Int.RustNames.{int_lt}
use Rattle.std.specs.Bool.{Decides}
use Rattle.std.specs.Option.{ok_or}
use Rattle.std.proofs.lemmas.Int.{ints}
use Rattle.std.proofs.lemmas.Bool.Decides.{nat_tests}
use Rattle.std.proofs.lemmas.List.Elements.{All-push}
use Rattle.pl_records.specs.Reading.{Record, Fault, field, Judges}
use Rattle.pl_records.specs.RuleTable.{IsFirstBroken}
use Rattle.pl_records.proofs.Readings.{few-more, rows-keep, under_ok, under-are, under-fault}
use Rattle.pl_records.proofs.RuleTables.{told_ok, ok_or-Ok, lacks-tells, has-tells, Judges-table}
use Rattle.pl_spec.specs.declared.AssetRow.{AssetRow}
use Rattle.pl_spec.proofs.DatesWritten.{IsDay-IsDate}
use Rattle.pl_lifetimes.specs.Assets.{AreAssets}
use Rattle.pl_lifetimes.proofs.SidColumns.{sid_known, unknown_tells}
use Rattle.pl_payouts.specs.declared.reading.Dividend.{Dividend}
use Rattle.pl_spec.specs.Limits.{most_payouts}
use Rattle.pl_payouts.specs.Payouts.{DataFault, breaks, dividend_in, header, is_above_0, dividend_or_rule, payouts_of, ArePayouts, AreKnown, IsPaid}
use Rattle.pl_payouts.specs.Payouts as rules
use Rattle.pl_payouts.specs.Rules.{IsDividendRecord, IsDividend, Breaks, ArePayoutsOf, IsPayoutsFault}
use Rattle.pl_payouts.proofs.DividendFields.{dividend_form}
use Rattle.pl_adjust.specs.Revised.{IsKnown}

-- ---- the tests

above_tells : (d : Dividend) → Decides (not (is_above_0 d.amount)) (d.amount ≤ℤ pos 0)
above_tells d = here d.amount
  where
    here : (v : ℤ) → Decides (not (int_lt (pos 0) v)) (v ≤ℤ pos 0)
    here v = (λ t. grind (arith, ints), λ h. grind (arith, ints))

module _ (assets : List AssetRow) (up : AreAssets assets) where
  tells : (before : List Dividend) (r : Record) (q : DataFault) → Decides (breaks assets before r q) (Breaks assets before r q)
  tells before r rules.TooMany = (λ t. grind (arith, nat_tests), λ h. grind (arith, nat_tests))
  tells before r rules.BadField = lacks-tells dividend_in IsDividendRecord dividend_form r
  tells before r rules.UnknownSid = has-tells dividend_in IsDividendRecord dividend_form _ _ (λ d. unknown_tells assets up d.sid) r
  tells before r rules.NotPositive = has-tells dividend_in IsDividendRecord dividend_form _ _ above_tells r
  tells before r fault = (λ t. absurd (let bad : false ≡ true = t in cc), λ h. absurd h)

  pub payouts_judged : Judges (IsDividend assets) (λ before r. IsFirstBroken rules.rules (Breaks assets before r)) (dividend_or_rule assets)
  unfolding dividend_or_rule
  payouts_judged =
      Judges-table dividend_in IsDividendRecord dividend_form rules.rules rules.BadField (breaks assets) (Breaks assets) tells (λ before r kept none. kept.1.0 none)

  -- ---- a file

  pub payouts-are : (records : List Record) (rows : List Dividend) → (payouts_of assets records ≡ Ok rows) ↔ ArePayoutsOf assets records rows
  unfolding payouts_of
  payouts-are records rows =
      under-are header rules.BadHeader (IsDividend assets) (λ before r. IsFirstBroken rules.rules (Breaks assets before r)) (dividend_or_rule assets) payouts_judged records rows

  pub payouts-fault : (records : List Record) (fault : Fault DataFault) → (payouts_of assets records ≡ Err fault) ↔ IsPayoutsFault assets records fault
  unfolding payouts_of
  payouts-fault records fault =
      under-fault header rules.BadHeader (IsDividend assets) (λ before r. IsFirstBroken rules.rules (Breaks assets before r)) (dividend_or_rule assets) payouts_judged records fault

-- ---- what is kept of all rows

abbrev Kept : List AssetRow → List Dividend → Type 0
Kept assets rows = ArePayouts rows × AreKnown assets rows

paid : (r : Record) (d : Dividend) → dividend_in r ≡ Some d → not (is_above_0 d.amount) ≡ false → IsPaid d.ex d.amount
paid r d e t =
    let it = (dividend_form r d).0 e in
    record { date = IsDay-IsDate (field r 1) d.ex it.ex; above = above d.amount t; cell = inr it.amount.2.1 }
  where
    above : (v : ℤ) → not (int_lt (pos 0) v) ≡ false → pos 0 <ℤ v
    above v t = grind (arith, ints)

kept-more : (assets : List AssetRow) → AreAssets assets → (before : List Dividend) (r : Record) (d : Dividend) → Kept assets before → dividend_or_rule assets before r ≡ Ok d → Kept assets (before ++ d ∷ [])
unfolding dividend_or_rule
kept-more assets up before r d h s =
    let k = told_ok rules.rules (breaks assets before r) (ok_or (dividend_in r) rules.BadField) d s in
    let at : dividend_in r ≡ Some d = ok_or-Ok (dividend_in r) rules.BadField d k.1 in (
      record { few = few-more most_payouts before d k.0.0; paid = All-push (λ (x : Dividend). IsPaid x.ex x.amount) before d h.0.paid (paid r d at (rw at at k.0.1.1.1.0)) },
      All-push (λ (x : Dividend). IsKnown assets x.sid) before d h.1 (sid_known assets up d.sid (rw at at k.0.1.1.0)),
    )

pub Kept-read : (assets : List AssetRow) → AreAssets assets → (records : List Record) (rows : List Dividend) → payouts_of assets records ≡ Ok rows → Kept assets rows
unfolding payouts_of
Kept-read assets up records rows e =
    rows-keep (Kept assets) 2 (dividend_or_rule assets) (kept-more assets up) _ [] rows
    (record { few = omega arith; paid = λ k d h. absurd (omega arith) }, λ k d h. absurd (omega arith))
    (under_ok header rules.BadHeader (dividend_or_rule assets) records rows e).1
