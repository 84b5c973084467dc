-- What the read of a whole file answers.
use Rattle.std.specs.Prelude.{ℕ, ◌≡◌, ◌+◌, ◌∷◌, List, length, Option, Result, Err, Vec, nat_le, IfOk, is_ok, IsErrOf, IsSomeAnd, IsOkAnd, MatchBool}
use Rattle.std.specs.declared.alloc.Global.{Global}
use Rattle.pl_outside.specs.declared.reading.ReadError.{ReadError}
use Rattle.pl_outside.specs.declared.reading.ReadError.TheVariants.{TooLong}
use Rattle.pl_outside.specs.Logs.{Given}

-- the file is held: one of at most so many bytes is read whole, and a longer one is too long
abbrev pub IsReadWhole : ℕ → Option (List ℕ) → Result (Vec ℕ Global) ReadError → Type 0
IsReadWhole cap file result =
    IsSomeAnd file (λ bytes. MatchBool (nat_le (length bytes) cap) (IsOkAnd result (λ read. read.items ≡ bytes)) (result ≡ Err TooLong))

-- One file more was given, of this name. The read answers its bytes exactly where its end was seen; it is too
-- long where `cap + 1` bytes of it were given.
pub record IsGiven (cap : ℕ) (old new : List Given) (name : List ℕ) (result : Result (Vec ℕ Global) ReadError) : Type 0 where
  pub file : Given
  pub added : new ≡ file ∷ old
  pub named : file.name ≡ name
  pub ended : file.ended ≡ is_ok result
  pub bytes : IfOk result (λ read. file.bytes ≡ read.items)
  pub too_long : IsErrOf result TooLong → length file.bytes ≡ cap + 1
