-- What calls leave of a shelf or a keeper.
use Rattle.std.specs.Prelude.{ℕ, ◌≡◌, ◌≤◌, Bool, Option}

-- All is as it was but for the counts: it tells the same, it is sound where it was, and its count of faults
-- hasn't fallen.
pub record Leaves {S A : Type 0} (tells : S → Option A) (sound : S → Bool) (faults : S → ℕ) (old new : S) : Type 0 where
  pub keeps : tells new ≡ tells old
  pub stays : sound new ≡ sound old
  pub later : faults old ≤ faults new

-- It was left alone.
pub record IsUntouched {S : Type 0} (faults calls : S → ℕ) (old new : S) : Type 0 where
  pub no_fault : faults new ≡ faults old
  pub no_call : calls new ≡ calls old

-- A sink is sound where it was, and its count of faults hasn't fallen.
pub record LeavesSink {S : Type 0} (sound : S → Bool) (faults : S → ℕ) (old new : S) : Type 0 where
  pub stays : sound new ≡ sound old
  pub later : faults old ≤ faults new
