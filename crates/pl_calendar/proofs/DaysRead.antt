-- Days that are read ascend, and are no more than a calendar has.
use Rattle.std.proofs.Common.{◌≡◌, ℕ, ◌-◌, ◌<◌, ◌≤◌, ◌↔◌, ℤ, ◌<ℤ◌, List, [], ◌∷◌, ◌++◌, length, length-append, get_or, Option, Some, None, IfSome, Ok, Err, refl, ap, arith, inl, inr}
use Rattle.std.specs.List.{All, AllPairs}
use Rattle.std.proofs.lemmas.Int.{ints, by_lt_z}
use Rattle.std.proofs.lemmas.Bool.{cases_lt}
use Rattle.std.proofs.lemmas.Option.{slice_get-get_or}
use Rattle.pl_records.specs.Reading.{Record, Fault, field, rows_of, rows_behind, AreRows, IsFirstFault}
use Rattle.pl_records.specs.RuleTable.{IsFirstBroken}
use Rattle.pl_spec.specs.Dates.{IsDay}
use Rattle.pl_spec.proofs.DatesWritten.{IsDay-IsDate}
use Rattle.std.proofs.lemmas.List.Elements.{All-push}
use Rattle.std.proofs.lemmas.List.Quantifiers.{all_pairs_push}
use Rattle.pl_records.proofs.Readings.{rows-keep, rows-as_many, rows-are, fault-is}
use Rattle.pl_calendar.specs.Days.{DataFault, rules, day_or_rule, sessions_of, AreDays}
use Rattle.pl_calendar.specs.Days as days
use Rattle.pl_calendar.specs.Rules.{IsSession, Breaks, IsSessionsFault}
use Rattle.pl_spec.specs.Limits.{most_sessions}
use Rattle.pl_calendar.proofs.DaysSaid.{days_judged}

-- ---- the days ascend

-- days that ascend, and are few; there may be none
pub record AreFront (xs : List ℤ) : Type 0 where
  pub dates : All IsDay xs
  pub ascend : AllPairs (λ a b. a <ℤ b) xs
  pub few : length xs ≤ most_sessions

AreFront-none : AreFront []
AreFront-none = record { dates = λ k d h. absurd (omega arith); ascend = λ i j d h l. absurd (omega arith); few = omega arith }

AreFront-more : (xs : List ℤ) (r : Record) (y : ℤ) → AreFront xs → IsSession xs r y → AreFront (xs ++ y ∷ [])
AreFront-more xs r y up h =
    record {
      dates = All-push IsDay xs y up.dates (IsDay-IsDate (field r 0) y h.0.1);
      ascend = all_pairs_push (λ a b. a <ℤ b) xs y up.ascend under;
      few = (let small : length xs < most_sessions = below (length xs) most_sessions h.1.0 in omega (arith, length-append xs (y ∷ [])));
    }
  where
    below : (n m : ℕ) → ¬ (m ≤ n) → n < m
    below n m not_most = elim (cases_lt n m) [ inl l ↦ l | inr g ↦ absurd (not_most (omega arith)) ]

    later-last : (d : ℤ) → 0 < length xs → get_or xs (length xs - 1) d <ℤ y
    later-last d some = by_lt_z (get_or xs (length xs - 1) d) y
        (λ before. before)
        (λ after. absurd (h.1.1.1.0 (y, h.0, (get_or xs (length xs - 1) d, slice_get-get_or xs (length xs - 1) d (omega arith), after))))

    both : (a b z : ℤ) → a <ℤ b → b <ℤ z → a <ℤ z
    both a b z f g = omega (arith, ints)

    under : (i : ℕ) (d : ℤ) → i < length xs → get_or xs i d <ℤ y
    under i d h = elim (cases_lt i (length xs - 1)) [
      | inl l ↦ both _ _ _ (up.ascend i (length xs - 1) d l (omega arith)) (later-last d (omega arith))
      | inr g ↦ (let same : i ≡ length xs - 1 = omega arith in rw same (later-last d (omega arith)))
    ]

AreFront-read : (records : List Record) (ds : List ℤ) → rows_of 1 day_or_rule records ≡ Ok ds → AreFront ds
AreFront-read records ds e =
    rows-keep AreFront 1 day_or_rule (λ before r day up said. AreFront-more before r day up ((days_judged.row before r day).0 said)) records [] ds AreFront-none e

-- ---- a file with and without records

pub sessions_of-err : (records : List Record) (f : Fault DataFault) → rows_of 1 day_or_rule records ≡ Err f → sessions_of records ≡ Err f
unfolding sessions_of rows_behind
sessions_of-err [] f e = absurd (cc)
sessions_of-err (r ∷ rs) f e = e

pub sessions_of-err_if : (records : List Record) (o : Option (Fault DataFault)) → IfSome o (λ f. rows_of 1 day_or_rule records ≡ Err f) → IfSome o (λ f. sessions_of records ≡ Err f)
sessions_of-err_if records None h = tt
sessions_of-err_if records (Some f) h = sessions_of-err records f h

pub sessions_of-ok : (records : List Record) (ds : List ℤ) → rows_of 1 day_or_rule records ≡ Ok ds → 0 < length ds → sessions_of records ≡ Ok ds
unfolding sessions_of rows_behind
sessions_of-ok [] ds e h = absurd (let same : [] ≡ ds = cc in omega (arith, ap length same))
sessions_of-ok (r ∷ rs) ds e h = e

pub sessions_of-empty : (records : List Record) (ds : List ℤ) → rows_of 1 day_or_rule records ≡ Ok ds → length ds ≡ 0 → sessions_of records ≡ Err (record { rule = days.Empty; line = 1 })
unfolding sessions_of
sessions_of-empty [] ds e h = refl
sessions_of-empty (r ∷ rs) ds e h = absurd (omega (arith, rows-as_many 1 day_or_rule (r ∷ rs) ds e))

pub rows-sessions_of : (records : List Record) (ds : List ℤ) → sessions_of records ≡ Ok ds → (rows_of 1 day_or_rule records ≡ Ok ds) × (0 < length ds)
unfolding sessions_of
rows-sessions_of [] ds e = absurd (let bad : Err (record { rule = days.Empty; line = 1 }) ≡ Ok ds = e in cc)
rows-sessions_of (r ∷ rs) ds e = (e, omega (arith, rows-as_many 1 day_or_rule (r ∷ rs) ds e))

pub AreDays-read : (records : List Record) (ds : List ℤ) → sessions_of records ≡ Ok ds → AreDays ds
AreDays-read records ds e =
    let it = rows-sessions_of records ds e in
    let up = AreFront-read records ds it.0 in
    record { some = it.1; dates = up.dates; ascend = up.ascend; few = up.few }

-- ---- a file in plain words

pub sessions-are : (records : List Record) (ds : List ℤ) → (sessions_of records ≡ Ok ds) ↔ ((0 < length ds) × AreRows IsSession records ds)
sessions-are records ds =
    (λ e. (let it = rows-sessions_of records ds e in (it.1, (said records ds).0 it.0)), λ h. sessions_of-ok records ds ((said records ds).1 h.1) h.0)
  where
    said : (records : List Record) (ds : List ℤ) → (rows_of 1 day_or_rule records ≡ Ok ds) ↔ AreRows IsSession records ds
    said = rows-are 1 IsSession (λ before r. IsFirstBroken rules (Breaks before r)) day_or_rule days_judged

pub sessions-fault : (records : List Record) (f : Fault DataFault) → (sessions_of records ≡ Err f) ↔ IsSessionsFault records f
unfolding sessions_of
sessions-fault records f = (there records, back)
  where
    told : (records : List Record) (f : Fault DataFault) → (rows_of 1 day_or_rule records ≡ Err f) ↔ IsFirstFault 1 IsSession (λ before r. IsFirstBroken rules (Breaks before r)) records f
    told = fault-is 1 IsSession (λ before r. IsFirstBroken rules (Breaks before r)) day_or_rule days_judged

    there : (records : List Record) → sessions_of records ≡ Err f → IsSessionsFault records f
    there [] e = inl (refl, (let same : Err (record { rule = days.Empty; line = 1 }) ≡ Err f = e in cc))
    there (r ∷ rs) e = inr ((told (r ∷ rs) f).0 e)

    back : IsSessionsFault records f → sessions_of records ≡ Err f
    back (inl h) = rw (h.0, h.1) refl
    back (inr h) = sessions_of-err records f ((told records f).1 h)
