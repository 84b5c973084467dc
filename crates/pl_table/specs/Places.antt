-- Bytes of which those in front count, and what is put behind these.
use Rattle.std.specs.Prelude.{◌≡◌, ℕ, ◌+◌, ◌≤◌, List, ◌++◌, length, take}

-- a line of n bytes, with room for the longest one
pub record IsLine (bytes : List ℕ) (n : ℕ) : Type 0 where
  pub long : length bytes ≡ 8_448
  pub within : n ≤ 8_448

-- after the first bytes of old, as many as the place says, new has the text, up to the end
pub record IsPlaced (old new : List ℕ) (place : ℕ) (text : List ℕ) (end : ℕ) : Type 0 where
  pub bytes : take end new ≡ take place old ++ text
  pub moved : end ≡ place + length text
  pub long : length new ≡ length old
