-- The world of six parts that name their assets by columns: a column is a place among the assets, from 0.
use Rattle.std.specs.Prelude.{ℕ, ◌<◌, ℤ, pos, ◌<ℤ◌, ◌≤ℤ◌, List, map, filter, length, unwrap_or, option_map, slice_get, slice_index_or, All, AllPairs, ◌==◌}
use Rattle.pl_spec.specs.declared.AssetRow.{AssetRow}
use Rattle.pl_spec.specs.declared.BarRow.{BarRow}
use Rattle.pl_spec.specs.Numbers.{NumberRow}
use Rattle.pl_spec.specs.World.{World, LabelRow, Bar, Event, Adjustment}

-- a label row, an adjustment and a number of the asset in a column
pub record ColumnLabel : Type 0 where
  pub name : List ℕ
  pub col : ℕ
  pub start : ℤ
  pub text : List ℕ

pub record ColumnAdjustment : Type 0 where
  pub col : ℕ
  pub event : Event

pub record ColumnNumber : Type 0 where
  pub name : List ℕ
  pub col : ℕ
  pub known : ℤ
  pub value : ℤ

-- the sid of a column
abbrev pub sid_at : List AssetRow → ℕ → ℕ
sid_at assets col = unwrap_or (option_map (λ a. a.sid) (slice_get assets col)) 0

abbrev pub bar_of : List AssetRow → BarRow → Bar
bar_of assets b =
    record {
      sid = sid_at assets b.col;
      session = b.session;
      open_price = slice_index_or b.cells 0 (pos 0);
      high = slice_index_or b.cells 1 (pos 0);
      low = slice_index_or b.cells 2 (pos 0);
      close = slice_index_or b.cells 3 (pos 0);
      volume = slice_index_or b.cells 4 (pos 0);
    }

abbrev pub label_of : List AssetRow → ColumnLabel → LabelRow
label_of assets r = record { name = r.name; sid = sid_at assets r.col; start = r.start; text = r.text }

abbrev pub adjustment_of : List AssetRow → ColumnAdjustment → Adjustment
adjustment_of assets x = record { sid = sid_at assets x.col; event = x.event }

abbrev pub number_of : List AssetRow → ColumnNumber → NumberRow
number_of assets r = record { name = r.name; sid = sid_at assets r.col; known = r.known; value = r.value }

abbrev pub world_of : List ℤ → List AssetRow → List ColumnLabel → List (List ℕ) → List BarRow
    → List ColumnAdjustment → List ColumnNumber → World
world_of days assets labels texts bars adjustments numbers =
    record {
      days = days;
      assets = assets;
      labels = map (label_of assets) labels;
      texts = texts;
      bars = map (bar_of assets) bars;
      adjustments = map (adjustment_of assets) adjustments;
      numbers = map (number_of assets) numbers;
    }

-- the parts were made for these sessions and assets
pub record AreFor (days : List ℤ) (assets : List AssetRow) (labels : List ColumnLabel) (bars : List BarRow)
    (adjustments : List ColumnAdjustment) (numbers : List ColumnNumber) : Type 0 where
  pub days_ascend : AllPairs (λ a b. a <ℤ b) days
  pub sids_ascend : AllPairs (λ a b. a.sid < b.sid) assets
  pub labels_in : All (λ r. r.col < length assets) labels
  pub bars_in : All (λ b. b.col < length assets) bars
  pub sessions_in : All (λ b. b.session < length days) bars
  pub adjustments_in : All (λ x. x.col < length assets) adjustments
  pub events_in_order : (col : ℕ) → AllPairs (λ x y. x.event.day ≤ℤ y.event.day) (filter (λ x. x.col == col) adjustments)
  pub numbers_in : All (λ r. r.col < length assets) numbers
