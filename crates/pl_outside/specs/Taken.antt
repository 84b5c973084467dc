-- What a sink takes.
use Rattle.std.specs.Prelude.{ℕ, ◌≡◌, ◌≤◌, ◌+◌, List, ◌++◌, take, length, Option, option_map, Result, Bool, IsTrue, IsOk, OnOk, OnErr}
use Rattle.pl_outside.specs.Counts.{Rose, count_plus}

-- these bytes were taken after those taken before, where the sink tells
abbrev pub TakesAll : Option (List ℕ) → Option (List ℕ) → List ℕ → Type 0
TakesAll old new bytes = new ≡ option_map (λ front. front ++ bytes) old

-- some bytes from the front of these were taken
abbrev pub TakesPrefix : Option (List ℕ) → Option (List ℕ) → List ℕ → Type 0
TakesPrefix old new bytes = (n : ℕ) × (n ≤ length bytes) × TakesAll old new (take n bytes)

-- a sound sink with room for so many bytes doesn't fail, and counts no fault
abbrev pub IsBlameless : {T E : Type 0} → Bool → ℕ → ℕ → ℕ → ℕ → Result T E → Type 0
IsBlameless sound room length before now result = IsTrue sound → length ≤ room → IsOk result × (now ≡ before)

-- A sink that takes each piece whole got so many pieces, and goes on so.
pub record IsWrittenIn {S : Type 0} (whole : S → Bool) (calls : S → ℕ) (old new : S) (pieces : ℕ) : Type 0 where
  pub stays : whole new ≡ whole old
  pub counted : IsTrue (whole old) → calls new ≡ count_plus (calls old) pieces

-- A call writes this text to a sink: all of it, or after a counted fault a prefix; and all of it to a sound
-- sink with room.
pub record Writes {S T E : Type 0} (taken : S → Option (List ℕ)) (faults : S → ℕ) (sound : S → Bool) (room : S → ℕ)
    (old new : S) (text : List ℕ) (result : Result T E) : Type 0 where
  pub all : OnOk result (TakesAll (taken old) (taken new) text)
  pub prefix : OnErr result (TakesPrefix (taken old) (taken new) text)
  pub failed : OnErr result (Rose (faults old) (faults new))
  pub later : faults old ≤ faults new
  pub stays : sound new ≡ sound old
  pub room_left : IsTrue (sound old) → OnOk result (room new + length text ≡ room old)
  pub blameless : IsBlameless (sound old) (room old) (length text) (faults old) (faults new) result

-- the line is told, where the sink tells, and counted no fault in this call or is sound with room
pub record IsTold {S : Type 0} (taken : S → Option (List ℕ)) (faults : S → ℕ) (sound : S → Bool) (room : S → ℕ) (old new : S) (line : List ℕ) : Type 0 where
  pub unless_risen : (Rose (faults old) (faults new) → ⊥) → TakesAll (taken old) (taken new) line
  pub in_room : IsTrue (sound old) → length line ≤ room old → TakesAll (taken old) (taken new) line
