-- The keys of revisions, by which one is found.
use Rattle.std.specs.Prelude.{ℕ, ◌+◌, ◌*◌, ◌^◌, ℤ, pos, ◌+ℤ◌, List, All, FitsSigned}
use Rattle.std.specs.Int.{w32}
use Rattle.std.specs.Int.RustNames.{unsigned_abs}
use Rattle.std.specs.HashSet.{HashSet}
use Rattle.pl_records.specs.Sorted.{AreKeys}
use Rattle.pl_spec.specs.World.{column_number}
use Rattle.pl_adjust.specs.declared.revisions.Revision.{Revision}

-- days are counted from the first of 32 bits
abbrev pub day_at : ℤ → ℕ
day_at day = unsigned_abs (day +ℤ pos (2 ^ 31))

-- a number of the sid, the bar's day, the column and the known day
abbrev pub key_of : Revision → ℕ
key_of x = ((x.sid * 2 ^ 32 + day_at x.bar_day) * 2 ^ 32 + column_number x.column) * 2 ^ 32 + day_at x.known

pub record HasDays (x : Revision) : Type 0 where
  pub bar_day : FitsSigned w32 x.bar_day
  pub known : FitsSigned w32 x.known

-- the set has the keys of the revisions
pub record AreFound {S : Type 0} (keys : HashSet ℕ S) (rows : List Revision) : Type 0 where
  pub each : AreKeys key_of keys rows
  pub days : All HasDays rows
