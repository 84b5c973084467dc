-- What a clause sees of a keeper in memory.
use Rattle.std.specs.Prelude.{ℕ, List, [], Bool, true, false, bytes_eq, if◌then◌else◌}
use Rattle.pl_spec.specs.declared.RawAdjust.{RawAdjust}
use Rattle.pl_outside.specs.declared.keeper.Table.{Table}
use Rattle.pl_outside.specs.declared.keeper.Table.TheVariants.{Splits, Mergers, Dividends}
use Rattle.pl_outside.specs.Calls.{Calls}
use Rattle.pl_outside.specs.Lists.{Lists, IsAscending}
use Rattle.pl_outside.specs.Logs.{Loaded}

-- the name of the rows, the rows of each table in ascending id, what was loaded, and the calls
pub record KeeperState : Type 0 where
  pub name : List ℕ
  pub splits : List RawAdjust
  pub mergers : List RawAdjust
  pub dividends : List RawAdjust
  pub loaded : List Loaded
  pub calls : Calls
  pub splits_ascend : IsAscending splits
  pub mergers_ascend : IsAscending mergers
  pub dividends_ascend : IsAscending dividends

abbrev pub rows_of : KeeperState → Table → List RawAdjust
rows_of keeper Splits = keeper.splits
rows_of keeper Mergers = keeper.mergers
rows_of keeper Dividends = keeper.dividends

-- the rows under the keeper's name, and none under another
abbrev pub kept : KeeperState → Lists
kept keeper name table = if bytes_eq keeper.name name then rows_of keeper table else []

rows_of-ascends : (keeper : KeeperState) (table : Table) → IsAscending (rows_of keeper table)
rows_of-ascends keeper Splits = keeper.splits_ascend
rows_of-ascends keeper Mergers = keeper.mergers_ascend
rows_of-ascends keeper Dividends = keeper.dividends_ascend

if-ascends : (b : Bool) (rows : List RawAdjust) → IsAscending rows → IsAscending (if b then rows else [])
if-ascends true rows ascend = ascend
if-ascends false rows ascend = λ i j d before within. elim within [ ]

-- each list that a keeper in memory tells is in ascending id
pub kept-ascends : (keeper : KeeperState) (name : List ℕ) (table : Table) → IsAscending (kept keeper name table)
kept-ascends keeper name table = if-ascends (bytes_eq keeper.name name) (rows_of keeper table) (rows_of-ascends keeper table)
