-- What a record says of its day, in plain words.
use Rattle.std.proofs.Common.{◌≡◌, ◌↔◌, ◌==◌, not, true, false, ℤ, ◌≤ℤ◌, List, length, Option, Some, None, option_map, unwrap_or, refl, sym, ◌∙◌, arith, eq-eqb, eqb-true}
use Rattle.std.specs.Int.RustNames.{int_lt}
use Rattle.std.specs.Bool.{Decides}
use Rattle.std.proofs.lemmas.Int.{ints}
use Rattle.std.proofs.lemmas.Bool.Decides.{nat_tests}
use Rattle.pl_records.specs.Reading.{Record, field, Judges}
use Rattle.pl_records.specs.RuleTable.{IsFirstBroken}
use Rattle.pl_records.proofs.RuleTables.{when_some, lacks-tells, has-tells, Judges-table}
use Rattle.pl_spec.proofs.DatesRead.{date_in-IsDate, IsDate-date_in}
use Rattle.pl_calendar.specs.Days.{DataFault, rules, breaks, day_in, last_of, is_later, day_or_rule}
use Rattle.pl_calendar.specs.Days as days
use Rattle.pl_calendar.specs.Rules.{IsDayRecord, IsSession, Breaks}

-- ---- each test

form : (r : Record) (day : ℤ) → (day_in r ≡ Some day) ↔ IsDayRecord r day
form r day = (
  λ e. (let it = when_some (length r == 1) _ day e in (eqb-true _ 1 it.0, IsDate-date_in (field r 0) day it.1)),
  λ h. rw (eq-eqb (length r) 1 h.0) (date_in-IsDate (field r 0) day h.1),
)

-- the day is no later than the one before, where there is one
late_tells : (before : List ℤ) (day : ℤ) → Decides (not (is_later before day)) ((last : ℤ) × (last_of before ≡ Some last) × (day ≤ℤ last))
late_tells before day = here (last_of before) refl
  where
    here : (o : Option ℤ) → last_of before ≡ o → Decides (not (unwrap_or (option_map (λ last. int_lt last day) o) true)) ((last : ℤ) × (last_of before ≡ Some last) × (day ≤ℤ last))
    here None e = (λ t. absurd (let bad : false ≡ true = t in cc), λ h. absurd (let bad : None ≡ Some h.0 = sym e ∙ h.1 in cc))
    here (Some last) e = (
      λ t. (last, e, (let u : not (int_lt last day) ≡ true = t in grind (arith, ints))),
      λ h. (let one : Some h.0 ≡ Some last = sym h.1 ∙ e in let same : h.0 ≡ last = cc in let le : day ≤ℤ last = rw same at h.2 in grind (arith, ints)),
    )

tells : (before : List ℤ) (r : Record) (q : DataFault) → Decides (breaks before r q) (Breaks before r q)
tells before r days.TooMany = (λ t. grind (arith, nat_tests), λ h. grind (arith, nat_tests))
tells before r days.BadDate = lacks-tells day_in IsDayRecord form r
tells before r days.NotAscending = has-tells day_in IsDayRecord form _ _ (late_tells before) r
tells before r fault = (λ t. absurd (let bad : false ≡ true = t in cc), λ h. absurd h)

pub days_judged : Judges IsSession (λ before r. IsFirstBroken rules (Breaks before r)) day_or_rule
unfolding day_or_rule
days_judged = Judges-table day_in IsDayRecord form rules days.BadDate breaks Breaks tells (λ before r kept none. kept.1.0 none)
