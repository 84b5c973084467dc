-- When a count rose.
use Rattle.std.proofs.Common.{◌≤◌, ℕ, arith}
use Rattle.pl_outside.specs.Counts.{Rose}

-- a later rise is one of the whole
pub Rose-later : (first mid last : ℕ) → first ≤ mid → Rose mid last → Rose first last
Rose-later first mid last later rose = omega arith
