-- Counts of faults, of calls and of bytes. Each ends at the greatest number of 64 bits.
use Rattle.std.specs.Prelude.{ℕ, ◌+◌, ◌-◌, ◌≤◌, ◌^◌, min, Result, OnErr}
use Rattle.std.specs.Result.{result_unwrap_or}

abbrev pub count_end : ℕ
count_end = 2 ^ 64 - 1

-- a count after n more, of which those past its end aren't counted
abbrev pub count_plus : ℕ → ℕ → ℕ
count_plus count n = count + min n (count_end - count)

-- how many bytes a call gave or took: none where it failed
abbrev pub moved : {E : Type 0} → Result ℕ E → ℕ
moved result = result_unwrap_or result 0

-- The count rose in a call: as the call ends, it is greater than at the call's start or stands at its end.
abbrev pub Rose : ℕ → ℕ → Type 0
Rose before now = count_plus before 1 ≤ now

-- the count of faults never falls, and a call fails only where it rose
pub record HasCause {T E : Type 0} (before now : ℕ) (result : Result T E) : Type 0 where
  pub later : before ≤ now
  pub failed : OnErr result (Rose before now)
