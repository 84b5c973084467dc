-- Revisions that are read: what is kept of all rows, and what a file says, in plain words.
use Rattle.std.proofs.Common.{◌≡◌, ◌↔◌, ◌==◌, ◌&&◌, true, false, List, [], ◌∷◌, ◌++◌, Some, Ok, Err, refl, ap, ℤ, ◌<ℤ◌, ◌≤ℤ◌, arith, eq-eqb, eqb-true}
use Rattle.std.specs.Prelude.{Contains}
use Rattle.std.specs.List.{slice_get}
use Rattle.std.specs.Int.RustNames.{int_le}
use Rattle.std.specs.Ordering.{int_eq}
use Rattle.std.specs.Bool.{Decides}
use Rattle.std.specs.Option.{ok_or}
use Rattle.std.proofs.lemmas.Int.{ints}
use Rattle.std.proofs.lemmas.Bool.{and_parts}
use Rattle.std.proofs.lemmas.Bool.Decides.{nat_tests}
use Rattle.std.proofs.lemmas.List.Elements.{All-push, Contains-get_or}
use Rattle.std.proofs.lemmas.Option.{slice_get_within, get_or_from_slice_get}
use Rattle.pl_records.specs.Reading.{Record, Fault, field, Judges}
use Rattle.pl_records.specs.RuleTable.{IsFirstBroken, lacks}
use Rattle.pl_records.proofs.Readings.{few-more, rows-keep, under_ok, under-are, under-fault}
use Rattle.pl_records.proofs.RuleTables.{any-tells, lacks-none, told_ok, ok_or-Ok, lacks-tells, has-tells, Judges-table}
use Rattle.pl_spec.specs.declared.AssetRow.{AssetRow}
use Rattle.pl_spec.specs.declared.Column.{Column}
use Rattle.pl_spec.specs.World.{column_number}
use Rattle.pl_spec.specs.Window.{same_column}
use Rattle.pl_spec.proofs.DatesWritten.{IsDay-IsDate}
use Rattle.pl_calendar.specs.Days.{AreDays}
use Rattle.pl_lifetimes.specs.Assets.{AreAssets}
use Rattle.pl_lifetimes.proofs.SidColumns.{sid_known, unknown_tells}
use Rattle.pl_bars.proofs.BarFields.{IsCellText-bar_cell, IsNegative-test, is_negative-test}
use Rattle.pl_bars.specs.Bars.{session_in}
use Rattle.pl_bars.proofs.BarsSaid.{day_form, no_session_tells}
use Rattle.pl_adjust.specs.declared.revisions.Revision.{Revision}
use Rattle.pl_spec.specs.Limits.{most_revisions}
use Rattle.pl_adjust.specs.Revisions.{DataFault, breaks, revision_in, header, is_same, is_soon, revision_or_rule, revisions_of, AreRevisions, IsRevision}
use Rattle.pl_adjust.specs.Revisions as rules
use Rattle.pl_adjust.specs.RevisionRules.{IsRevisionRecord, AreOfOne, IsNext, Breaks, AreRevisionsOf, IsRevisionsFault}
use Rattle.pl_adjust.proofs.RevisionFields.{revision_form}
use Rattle.pl_spec.proofs.Signed.{int_eq-true, eq-int_eq}
use Rattle.pl_spec.proofs.Columns.{column_number-one}

-- ---- the tests

soon_tells : (x : Revision) → Decides (is_soon x) (x.known ≤ℤ x.bar_day)
soon_tells x = here x.known x.bar_day
  where
    here : (a b : ℤ) → Decides (int_le a b) (a ≤ℤ b)
    here a b = (λ t. grind (arith, ints), λ h. grind (arith, ints))

pub column_is : (c k : Column) → same_column c k ≡ true → c ≡ k
column_is c k t = column_number-one c k (eqb-true _ _ t)

pub parts : (x y : Revision) → is_same x y ≡ true → AreOfOne x y
parts x y t =
    let a = and_parts ((y.sid == x.sid && int_eq y.bar_day x.bar_day) && same_column y.column x.column) (int_eq y.known x.known) t in
    let b = and_parts (y.sid == x.sid && int_eq y.bar_day x.bar_day) (same_column y.column x.column) a.0 in
    let d = and_parts (y.sid == x.sid) (int_eq y.bar_day x.bar_day) b.0 in
    record { sid = eqb-true _ _ d.0; session = int_eq-true _ _ d.1; column = column_is _ _ b.1; known = int_eq-true _ _ a.1 }

pub whole : (x y : Revision) → AreOfOne x y → is_same x y ≡ true
whole x y h =
    let sid : (y.sid == x.sid) ≡ true = eq-eqb _ _ h.sid in
    let day : int_eq y.bar_day x.bar_day ≡ true = eq-int_eq _ _ h.session in
    let column : same_column y.column x.column ≡ true = eq-eqb _ _ (ap column_number h.column) in
    let known : int_eq y.known x.known ≡ true = eq-int_eq _ _ h.known in
    rw (sid, day, column, known) refl

module _ (days : List ℤ) (assets : List AssetRow) (ud : AreDays days) (ua : AreAssets assets) where
  tells : (before : List Revision) (r : Record) (q : DataFault) → Decides (breaks days assets before r q) (Breaks days assets before r q)
  tells before r rules.TooMany = (λ t. grind (arith, nat_tests), λ h. grind (arith, nat_tests))
  tells before r rules.BadField = lacks-tells revision_in IsRevisionRecord revision_form r
  tells before r rules.NotSession = has-tells revision_in IsRevisionRecord revision_form _ _ (λ x. no_session_tells days ud x.bar_day) r
  tells before r rules.UnknownSid = has-tells revision_in IsRevisionRecord revision_form _ _ (λ x. unknown_tells assets ua x.sid) r
  tells before r rules.Negative =
      has-tells revision_in IsRevisionRecord revision_form _ _ (λ x. (IsNegative-test x.value, is_negative-test x.value)) r
  tells before r rules.TooSoon = has-tells revision_in IsRevisionRecord revision_form _ _ soon_tells r
  tells before r rules.Duplicate =
      has-tells revision_in IsRevisionRecord revision_form _ _
      (λ x. any-tells (is_same x) (AreOfOne x) (λ y. (parts x y, whole x y)) before) r
  tells before r fault = (λ t. absurd (let bad : false ≡ true = t in cc), λ h. absurd h)

  pub revisions_judged : Judges (IsNext days assets) (λ before r. IsFirstBroken rules.rules (Breaks days assets before r)) (revision_or_rule days assets)
  unfolding revision_or_rule
  revisions_judged =
      Judges-table revision_in IsRevisionRecord revision_form rules.rules rules.BadField (breaks days assets) (Breaks days assets) tells (λ before r kept none. kept.1.0 none)

  -- ---- a file

  pub revisions-are : (records : List Record) (rows : List Revision) → (revisions_of days assets records ≡ Ok rows) ↔ AreRevisionsOf days assets records rows
  unfolding revisions_of
  revisions-are records rows =
      under-are header rules.BadHeader (IsNext days assets) (λ before r. IsFirstBroken rules.rules (Breaks days assets before r)) (revision_or_rule days assets) revisions_judged records rows

  pub revisions-fault : (records : List Record) (fault : Fault DataFault) → (revisions_of days assets records ≡ Err fault) ↔ IsRevisionsFault days assets records fault
  unfolding revisions_of
  revisions-fault records fault =
      under-fault header rules.BadHeader (IsNext days assets) (λ before r. IsFirstBroken rules.rules (Breaks days assets before r)) (revision_or_rule days assets) revisions_judged records fault

  -- ---- what is kept of all rows

  dated : (day : ℤ) → lacks (session_in days day) ≡ false → Contains days day
  dated day t =
      let it = lacks-none (session_in days day) t in
      let at : slice_get days it.0 ≡ Some day = (day_form days ud day it.0).0 it.1 in
      rw (← get_or_from_slice_get days it.0 day day at) (Contains-get_or days it.0 day (slice_get_within days it.0 day at))

  later : (a b : ℤ) → int_le a b ≡ false → b <ℤ a
  later a b t = grind (arith, ints)

  kept-more : (before : List Revision) (r : Record) (x : Revision) → AreRevisions days assets before → revision_or_rule days assets before r ≡ Ok x → AreRevisions days assets (before ++ x ∷ [])
  unfolding revision_or_rule
  kept-more before r x h s =
      let k = told_ok rules.rules (breaks days assets before r) (ok_or (revision_in r) rules.BadField) x s in
      let at : revision_in r ≡ Some x = ok_or-Ok (revision_in r) rules.BadField x k.1 in
      let it = (revision_form r x).0 at in
      record {
        few = few-more most_revisions before x k.0.0;
        each = All-push (IsRevision days assets) before x h.each (record {
          asset = sid_known assets ua x.sid (rw at at k.0.1.1.1.0);
          session = dated x.bar_day (rw at at k.0.1.1.0);
          later = later x.known x.bar_day (rw at at k.0.1.1.1.1.1.0);
          date = IsDay-IsDate (field r 4) x.known it.known;
          cell = IsCellText-bar_cell (field r 3) x.value it.value (rw at at k.0.1.1.1.1.0);
        });
      }

  pub AreRevisions-read : (records : List Record) (rows : List Revision) → revisions_of days assets records ≡ Ok rows → AreRevisions days assets rows
  unfolding revisions_of
  AreRevisions-read records rows e =
      rows-keep (AreRevisions days assets) 2 (revision_or_rule days assets) kept-more _ [] rows
      (record { few = omega arith; each = λ k d h. absurd (omega arith) })
      (under_ok header rules.BadHeader (revision_or_rule days assets) records rows e).1
