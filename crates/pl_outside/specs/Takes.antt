-- What the handing on of a whole file answers.
use Rattle.std.specs.Prelude.{ℕ, ◌≡◌, ◌+◌, ◌≤◌, ◌∷◌, List, length, Result, is_ok, IfOk, IsErrOf}
use Rattle.pl_outside.specs.declared.reading.ReadError.{ReadError}
use Rattle.pl_outside.specs.declared.reading.ReadError.TheVariants.{TooLong}
use Rattle.pl_outside.specs.Logs.{Given}

-- One file more was given, of this name. Where its end was seen, all its bytes were taken, and are those that are
-- held; it is too long where `cap + 1` bytes of it were given.
pub record IsTaken {T : Type 0} (cap : ℕ) (old new : List Given) (name : List ℕ) (Took Held : List ℕ → Type 0)
    (result : Result T ReadError) : Type 0 where
  pub file : Given
  pub added : new ≡ file ∷ old
  pub named : file.name ≡ name
  pub ended : file.ended ≡ is_ok result
  pub within : IfOk result (λ _. length file.bytes ≤ cap)
  pub taken : IfOk result (λ _. Took file.bytes)
  pub held : IfOk result (λ _. Held file.bytes)
  pub too_long : IsErrOf result TooLong → length file.bytes ≡ cap + 1
