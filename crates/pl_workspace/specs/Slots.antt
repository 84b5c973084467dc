-- A table of slots: which are free, which are begun, and what the live ones hold.
use Rattle.std.specs.Prelude.{◌≡◌, ℕ, ℤ, List, max, replicate, sum_by, slice_set, get_or}

pub data Slot : Type 0 where
  Free Begun : Slot
  Live : (cells : List ℤ) → Slot

-- The slots by number, each of len cells, and the greatest number of slots that were in use at once.
pub record Slots : Type 0 where
  pub len : ℕ
  pub slots : List Slot
  pub peak : ℕ

-- a buffer that was handed out
pub record Lent : Type 0 where
  pub slot : ℕ
  pub cells : List ℤ

abbrev pub in_use : Slot → ℕ
in_use Free = 0
in_use Begun = 1
in_use (Live cells) = 1

-- how many slots are begun or live
abbrev pub live_count : List Slot → ℕ
live_count slots = sum_by in_use slots

-- the slot of a number; after the last none is free and none is live
abbrev pub slot_at : Slots → ℕ → Slot
slot_at w k = get_or w.slots k Begun

-- the same slots, all free
abbrev pub fresh : ℕ → ℕ → Slots
fresh slots len = record { len = len; slots = replicate slots Free; peak = 0 }

-- one slot changed; the peak counts it
abbrev pub with_slot : Slots → ℕ → Slot → Slots
with_slot w k s = let slots = slice_set w.slots k s in record { len = w.len; slots = slots; peak = max w.peak (live_count slots) }

abbrev pub IsLive : Slot → Type 0
IsLive s = (cells : List ℤ) × (s ≡ Live cells)
