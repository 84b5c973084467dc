-- Which terms are live in a workspace, each in its slot.
use Rattle.std.specs.Prelude.{◌≡◌, ℕ, ◌<◌, Bool, true, false, ◌&&◌, not, nat_lt, ◌==◌, ℤ, List, length, count_by, Option, Some, None}
use Rattle.std.specs.List.{range_with_len}
use Rattle.pl_workspace.specs.Slots.{Slots, Free, Live, slot_at, live_count}
use Rattle.pl_planner.specs.Plans.{is_read_by}

-- the slot holds an array of which the fact is true
pub record IsHeld (fact : List ℤ → Type 0) (w : Slots) (s : ℕ) : Type 0 where
  pub cells : List ℤ
  pub is : slot_at w s ≡ Live cells
  pub holds : fact cells

-- Of the terms below n exactly those of which live is true have their arrays, and every other slot is free.
pub record AreLive (slot : ℕ → ℕ) (fact : ℕ → List ℤ → Type 0) (live : ℕ → Bool) (n : ℕ) (w : Slots) : Type 0 where
  pub held : (t : ℕ) → t < n → live t ≡ true → IsHeld (fact t) w (slot t)
  pub free : (s : ℕ) → s < length w.slots → ((t : ℕ) → t < n → live t ≡ true → slot t ≡ s → ⊥) → slot_at w s ≡ Free
  pub count : live_count w.slots ≡ count_by live (range_with_len 0 n)

-- no two terms that are live together share a slot
abbrev pub AreApart : (ℕ → ℕ) → (ℕ → Bool) → ℕ → Type 0
AreApart slot live n = (i j : ℕ) → i < n → j < n → live i ≡ true → live j ≡ true → slot i ≡ slot j → i ≡ j

-- ---- by the last user of each term; an output has none

abbrev pub ends_at : Option ℕ → ℕ → Bool
ends_at None k = false
ends_at (Some last) k = last == k

-- a used term that is still to be read when term k is computed, or is an output
abbrev pub kept : (ℕ → Bool) → (ℕ → Option ℕ) → ℕ → ℕ → Bool
kept used last k t = used t && is_read_by (last t) k

-- of these the ones that are left when those below n whose last user is k are released
abbrev pub left : (ℕ → Bool) → (ℕ → Option ℕ) → ℕ → ℕ → ℕ → Bool
left used last k n t = kept used last k t && not (nat_lt t n && ends_at (last t) k)
