-- Slots for the results of terms and for their bar columns, of those that are free the lowest ones.
use Rattle.std.specs.Prelude.{◌≡◌, ℕ, ◌+◌, ◌<◌, ◌≤◌, ◌⊎◌, Bool, true, false, if◌then◌else◌, List, [], length, get_or, set, sum_by, count_by}
use Rattle.std.specs.List.{range_with_len}
use Rattle.pl_spec.specs.Limits.{most_terms}
use Rattle.pl_planner.specs.declared.uses.Use.{Use}
use Rattle.pl_planner.specs.declared.slots.TermSlots.{TermSlots}
use Rattle.pl_planner.specs.Uses.{is_kept}

abbrev pub no_slots : TermSlots
no_slots = record { own = 0; columns = [] }

abbrev pub slots_at : List TermSlots → ℕ → TermSlots
slots_at slots t = get_or slots t no_slots

abbrev pub own_slot : List TermSlots → ℕ → ℕ
own_slot slots t = (slots_at slots t).own

-- how many of the terms below k are still to be read when term k is computed
abbrev pub kept_below : List Use → ℕ → ℕ
kept_below uses k = count_by (is_kept uses k) (range_with_len 0 k)

abbrev pub one : Bool → ℕ
one b = if b then 1 else 0

-- a term below n that is kept up to term k has the slot
pub record IsHad (uses : List Use) (slots : List TermSlots) (k n slot : ℕ) : Type 0 where
  pub term : ℕ
  pub below : term < n
  pub kept : is_kept uses k term ≡ true
  pub has : own_slot slots term ≡ slot

-- the lowest slot that isn't taken
pub record IsLowest (IsTaken : ℕ → Type 0) (slot : ℕ) : Type 0 where
  pub free : IsTaken slot → ⊥
  pub lowest : (s : ℕ) → s < slot → IsTaken s

-- what term k finds taken for a column: what the terms below have that are kept, its own slot, and those of
-- its columns before
abbrev pub IsHadBefore : List Use → List TermSlots → ℕ → TermSlots → ℕ → ℕ → Type 0
IsHadBefore uses slots k new i slot = (IsHad uses slots k k slot ⊎ (new.own ≡ slot)) ⊎ ((j : ℕ) × (j < i) × (get_or new.columns j 0 ≡ slot))

-- The lowest slot that no term below has which is kept up to term k, and then the next ones. There are no
-- more taken than such terms.
pub record IsSlotted (uses : List Use) (slots : List TermSlots) (k : ℕ) (new : TermSlots) : Type 0 where
  pub own : IsLowest (IsHad uses slots k k) new.own
  pub columns : (i : ℕ) → i < 5 → IsLowest (IsHadBefore uses slots k new i) (get_or new.columns i 0)
  pub below : new.own ≤ kept_below uses k
  pub columns_below : (i : ℕ) → i < 5 → get_or new.columns i 0 ≤ kept_below uses k + 1 + i

-- the terms have their slots
pub record AreSlotted (uses : List Use) (slots : List TermSlots) : Type 0 where
  pub each : (k : ℕ) → k < length slots → IsSlotted uses slots k (slots_at slots k)
  pub few : (t : ℕ) → own_slot slots t ≤ most_terms

-- the marks are those of the slots that are taken
pub record AreMarksOf (IsTaken : ℕ → Type 0) (taken : List Bool) : Type 0 where
  pub yes : (s : ℕ) → IsTaken s → get_or taken s false ≡ true
  pub no : (s : ℕ) → get_or taken s false ≡ true → IsTaken s

-- the slots of the terms below n that are kept up to term k are taken, and no more than there are such terms
pub record IsTaken (uses : List Use) (slots : List TermSlots) (k n : ℕ) (taken : List Bool) : Type 0 where
  pub size : length taken ≡ most_terms + 6
  pub tells : AreMarksOf (IsHad uses slots k n) taken
  pub few : sum_by one taken ≤ count_by (is_kept uses k) (range_with_len 0 n)

-- the lowest slot that isn't taken is, and is taken then
pub record Takes (old new : List Bool) (slot : ℕ) : Type 0 where
  pub before : (i : ℕ) → i < slot → get_or old i false ≡ true
  pub free : get_or old slot false ≡ false
  pub taken : new ≡ set old slot true
  pub count : sum_by one new ≡ sum_by one old + 1
  pub size : length new ≡ length old
