-- The laws of worlds whose rows stand in different orders.
use Rattle.std.specs.Prelude.{◌≡◌, ◌≢◌, ◌==◌, ℕ, ℤ, List, filter, AllPairs, IsPermutation}
use Rattle.pl_spec.specs.declared.AdjustmentKind.{AdjustmentKind}
use Rattle.pl_spec.specs.declared.AdjustmentKind.TheVariants.{Split, Merger, Dividend}
use Rattle.pl_spec.specs.declared.AssetRow.{AssetRow}
use Rattle.pl_spec.specs.declared.Column.{Column}
use Rattle.pl_spec.specs.declared.Format.{Format}
use Rattle.pl_spec.specs.declared.RawAdjust.{RawAdjust}
use Rattle.pl_spec.specs.World.{World, IsWorld, bar_cell, events_of, exists, label_at}
use Rattle.pl_spec.specs.Lookups.{BarsOnce, LabelsOnce}
use Rattle.pl_spec.specs.Numbers.{NumbersOnce, number_at}
use Rattle.pl_spec.specs.Order.{of_table, adjustments_of}
use Rattle.pl_spec.specs.Permuted.{AgreeInAll, HaveSameRows, EventsHaveOwnDays, events_on}
use Rattle.pl_spec.specs.declared.Figure.{Figure}
use Rattle.pl_pipeline.specs.Term.{Term}
use Rattle.pl_pipeline.specs.Value.{value}
use Rattle.pl_pipeline.specs.Table.{Pipeline, table}
use Rattle.pl_pipeline.specs.Text.{text}

-- Worlds in which whatever is looked up is the same have the same values of every term for every sid on every
-- session, and the same rows, and these are written alike.
pub record AgreeingWorldsAreAlike : Type 0 where
  pub values : (w v : World) → IsWorld w → IsWorld v → AgreeInAll w v
      → (names : List (List ℕ)) (t : Term) (a : ℕ) (s : ℤ) → value w names t a s ≡ value v names t a s
  pub rows : (w v : World) → IsWorld w → IsWorld v → AgreeInAll w v
      → (p : Pipeline) (from to : ℕ) → table w p from to ≡ table v p from to
  pub texts : (w v : World) → IsWorld w → IsWorld v → AgreeInAll w v → (p : Pipeline) (format : Format)
      → (from to : ℕ) → text w p format (table w p from to) ≡ text v p format (table v p from to)

-- Rows that change places change nothing that is looked up: label rows, bars and numbers, where each is there
-- once, assets, and adjustments, where those of one asset and day keep their order. Where they are of
-- distinct days the adjustments may be in any order.
pub record OrderChangesNothing : Type 0 where
  pub labels : (w v : World) → LabelsOnce w → w.days ≡ v.days → IsPermutation w.labels v.labels
      → (name : List ℕ) (a : ℕ) (s : ℤ) → label_at w name a s ≡ label_at v name a s
  pub bars : (w v : World) → BarsOnce w → IsPermutation w.bars v.bars
      → (a : ℕ) (c : Column) (s : ℤ) → bar_cell w a c s ≡ bar_cell v a c s
  pub adjustments : (w v : World) → IsWorld w → IsWorld v
      → (a : ℕ) → ((day : ℤ) → events_on w a day ≡ events_on v a day) → events_of w a ≡ events_of v a
  pub own_days : (w v : World) → EventsHaveOwnDays w → IsPermutation w.adjustments v.adjustments
      → (a : ℕ) (day : ℤ) → events_on w a day ≡ events_on v a day
  pub assets : (w v : World) → w.days ≡ v.days → IsPermutation w.assets v.assets
      → (a : ℕ) (s : ℤ) → exists w a s ≡ exists v a s
  pub numbers : (w v : World) → NumbersOnce w.numbers → IsPermutation w.numbers v.numbers
      → (f : Figure) (name : List ℕ) (a : ℕ) (day : ℤ)
      → number_at f w.numbers name a day ≡ number_at f v.numbers name a day
  pub all : (w v : World) → IsWorld w → IsWorld v → BarsOnce w → LabelsOnce w → NumbersOnce w.numbers
      → HaveSameRows w v → AgreeInAll w v

-- no two rows of a table are of one asset and one day
abbrev pub RowsHaveOwnDays : List AssetRow → AdjustmentKind → List RawAdjust → Type 0
RowsHaveOwnDays assets kind rows =
    AllPairs (λ x y. x.sid ≡ y.sid → x.event.day ≢ y.event.day) (of_table assets kind rows)

-- The rows of such tables may stand in any order: each asset has the same adjustments, in the order in which
-- they act.
abbrev pub TableRowsInAnyOrder : Type 0
TableRowsInAnyOrder = (assets : List AssetRow)
    (splits mergers dividends other_splits other_mergers other_dividends : List RawAdjust)
    → RowsHaveOwnDays assets Split splits → RowsHaveOwnDays assets Merger mergers
    → RowsHaveOwnDays assets Dividend dividends → IsPermutation splits other_splits
    → IsPermutation mergers other_mergers → IsPermutation dividends other_dividends
    → (a : ℕ) → filter (λ x. x.sid == a) (adjustments_of assets splits mergers dividends)
    ≡ filter (λ x. x.sid == a) (adjustments_of assets other_splits other_mergers other_dividends)
