-- The calls that a part in memory was given.
use Rattle.std.specs.Prelude.{ℕ, Bool, List, length, ◌==◌, if◌then◌else◌}
use Rattle.std.specs.List.{list_any}
use Rattle.pl_outside.specs.Counts.{count_plus}

-- the numbers of the calls that are to fail, how many were made, and how many faults were counted
pub record Calls : Type 0 where
  pub failing : List ℕ
  pub made : ℕ
  pub faults : ℕ

-- before the first call
abbrev pub no_calls : List ℕ → Calls
no_calls failing = record { failing = failing; made = 0; faults = 0 }

-- whether no call is to fail
abbrev pub never_fails : Calls → Bool
never_fails calls = length calls.failing == 0

-- whether the next call is to fail, where calls are numbered from 1
abbrev pub next_fails : Calls → Bool
next_fails calls = list_any (λ number. number == count_plus calls.made 1) calls.failing

-- after one more call, which failed or didn't
abbrev pub one_more : Calls → Bool → Calls
one_more calls failed =
    record calls { made = count_plus calls.made 1; faults = if failed then count_plus calls.faults 1 else calls.faults }
