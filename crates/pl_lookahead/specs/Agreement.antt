-- When the files and tables of two commands tell the same up to a session.
use Rattle.std.specs.Prelude.{◌≡◌, ℕ, suc, ◌≤◌, nat_lt, ◌==◌, ◌&&◌, Bool, ℤ, pos, ◌≤ℤ◌, List, [], filter, take, IsPermutation, Option, Some, None, slice_get}
use Rattle.std.specs.Int.RustNames.{int_le}
use Rattle.pl_spec.specs.declared.AdjustmentKind.{AdjustmentKind}
use Rattle.pl_spec.specs.declared.AdjustmentKind.TheVariants.{Split, Merger, Dividend}
use Rattle.pl_spec.specs.declared.AssetRow.{AssetRow}
use Rattle.pl_spec.specs.declared.RawAdjust.{RawAdjust}
use Rattle.pl_spec.specs.AsOf.{has_started}
use Rattle.pl_spec.specs.Numbers.{numbers_by}
use Rattle.pl_spec.specs.Order.{acts_at, of_table}
use Rattle.pl_spec.specs.World.{World, Adjustment, Bar, exists}
use Rattle.pl_adjust.specs.declared.revisions.Revision.{Revision}
use Rattle.pl_outside.specs.declared.keeper.Table.{Table}
use Rattle.pl_outside.specs.declared.keeper.Table.TheVariants.{Splits, Mergers, Dividends}
use Rattle.pl_words.specs.declared.request.InputFile.TheVariants.{Revisions}
use Rattle.pl_words.specs.Request.{WorldNames}
use Rattle.pl_load.specs.Contents.{Contents}
use Rattle.pl_load.specs.Held.{pipeline_held, days_held, assets_held, revisions_in, world_held}

abbrev pub kind_of : Table → AdjustmentKind
kind_of Splits = Split
kind_of Mergers = Merger
kind_of Dividends = Dividend

-- the adjustments of a table, as they stand there, where a database is named
abbrev pub of_table_asked : List AssetRow → Option (List ℕ) → (Table → List RawAdjust) → Table
    → List Adjustment
of_table_asked assets None rows table = []
of_table_asked assets (Some name) rows table = of_table assets (kind_of table) (rows table)

abbrev pub of_table_held : Contents → WorldNames → Table → List Adjustment
of_table_held held q table = of_table_asked (assets_held held) q.adjustments held.rows table

-- the revisions of the file, where one is named
abbrev pub revisions_asked : List ℤ → List AssetRow → Option (List ℕ) → Option (List ℕ) → List Revision
revisions_asked days assets None file = []
revisions_asked days assets (Some name) file = revisions_in days assets file

abbrev pub revisions_held : Contents → WorldNames → List Revision
revisions_held held q =
    revisions_asked (days_held held) (assets_held held) q.revisions (held.file Revisions)

-- an adjustment of the asset that is effective on the day
abbrev pub is_of : ℕ → ℤ → Adjustment → Bool
is_of sid day x = x.sid == sid && acts_at day x

-- the bar is of a session before d, and the revision is known by the day
abbrev pub is_before : ℕ → Bar → Bool
is_before d b = nat_lt b.session d

abbrev pub is_known_by : ℤ → Revision → Bool
is_known_by day x = int_le x.known day

-- Two worlds have the same rows that are known on session d, whose day is the given one, in whatever order
-- they stand: the sessions up to d; the bars of sessions before it; the label rows that start by the day; the
-- numbers that are known by it. Each sid exists on the same of these sessions: an end after the day may be
-- any other, and an asset that starts on the day or later may be there or not.
pub record SameRowsUpTo (w v : World) (d : ℕ) (day : ℤ) : Type 0 where
  pub is_day : slice_get w.days d ≡ Some day
  pub sessions : take (suc d) w.days ≡ take (suc d) v.days
  pub lifetimes : (sid s : ℕ) → s ≤ d → exists w sid (pos s) ≡ exists v sid (pos s)
  pub bars : IsPermutation (filter (is_before d) w.bars) (filter (is_before d) v.bars)
  pub labels : IsPermutation (filter (has_started day) w.labels) (filter (has_started day) v.labels)
  pub numbers : IsPermutation (numbers_by day w.numbers) (numbers_by day v.numbers)

-- Two commands agree up to session d, whose day is the given one: their pipeline files mean one pipeline;
-- their sessions, assets, bars, labels and numbers, with the results, are the same up to d; of an asset and a
-- day up to this one each table of adjustments has the same rows, in the same order; and the revisions that
-- are known by the day are the same, in whatever order. Whatever else the files and tables hold does not
-- matter, nor do their names. To compare one's own files, take of each what is known: bars of dates before
-- the day, label records whose start, numbers, results and revisions whose known day is not after it, rows
-- that are effective before its end. Sorted, they are the same lines.
pub record AgreeUpTo (one other : Contents) (q r : WorldNames) (d : ℕ) (day : ℤ) : Type 0 where
  pub pipelines : pipeline_held one ≡ pipeline_held other
  pub rows : SameRowsUpTo (world_held one q) (world_held other r) d day
  pub tables : (table : Table) (sid : ℕ) (x : ℤ) → x ≤ℤ day
      → filter (is_of sid x) (of_table_held one q table) ≡ filter (is_of sid x) (of_table_held other r table)
  pub revisions : IsPermutation (filter (is_known_by day) (revisions_held one q))
      (filter (is_known_by day) (revisions_held other r))
