-- The rules of the rows of adjustments in plain words.
use Rattle.std.specs.Prelude.{◌≡◌, ℕ, ◌<◌, ◌≤◌, ℤ, pos, negsuc, ◌<ℤ◌, ◌≤ℤ◌, List, ◌∷◌, ◌++◌, length, slice_get, Some}
use Rattle.pl_spec.specs.declared.RawAdjust.{RawAdjust}
use Rattle.pl_spec.specs.Limits.{most_adjustments}
use Rattle.pl_adjust.specs.Walk.{Fault, TooMany, BadEffective, BadRatio, TableRow}

-- a time from the first second of 1900 up to the last of 2199
pub record IsEffective (time : ℤ) : Type 0 where
  pub from : negsuc 2208988799 ≤ℤ time
  pub before : time <ℤ pos 7258118400

-- numbers from 1 to 10^9
pub record HasRatio (r : RawAdjust) : Type 0 where
  pub num : (pos 1 ≤ℤ r.num) × (r.num ≤ℤ pos 1000000000)
  pub den : (pos 1 ≤ℤ r.den) × (r.den ≤ℤ pos 1000000000)

-- a row after n rows that breaks no rule
pub record IsRight (n : ℕ) (r : TableRow) : Type 0 where
  pub room : n < most_adjustments
  pub effective : IsEffective r.row.effective
  pub ratio : HasRatio r.row

abbrev pub AreRight : List TableRow → Type 0
AreRight rows = (k : ℕ) (r : TableRow) → slice_get rows k ≡ Some r → IsRight k r

-- a row after n rows breaks this rule, and none that is tested before it
abbrev pub IsFaultOf : ℕ → TableRow → Fault → Type 0
IsFaultOf n r TooMany = most_adjustments ≤ n
IsFaultOf n r (BadEffective table id) =
    (n < most_adjustments) × (¬ IsEffective r.row.effective) × (table ≡ r.table) × (id ≡ r.row.id)
IsFaultOf n r (BadRatio table id) =
    (n < most_adjustments) × IsEffective r.row.effective × (¬ HasRatio r.row) × (table ≡ r.table) × (id ≡ r.row.id)

-- the rows before the faulty one are right
pub record IsFirstFault (rows : List TableRow) (fault : Fault) : Type 0 where
  pub front : List TableRow
  pub faulty : TableRow
  pub back : List TableRow
  pub parts : rows ≡ front ++ faulty ∷ back
  pub right : AreRight front
  pub breaks : IsFaultOf (length front) faulty fault
