-- What a clause sees of a sink in memory.
use Rattle.std.specs.Prelude.{ℕ, List}
use Rattle.pl_outside.specs.Calls.{Calls}

-- the bytes taken, how many more there is room for, the greatest piece that is taken at once, or 0 for none,
-- and the calls
pub record SinkState : Type 0 where
  pub taken : List ℕ
  pub room : ℕ
  pub piece : ℕ
  pub calls : Calls
