-- A world: the session days, the assets, their labels, their daily bars, the adjustments and the numbers.
use Rattle.std.specs.Prelude.{ℕ, ◌<◌, Bool, ◌&&◌, ◌==◌, ℤ, pos, negsuc, ◌<ℤ◌, ◌≤ℤ◌, List, [], ◌∷◌, map, filter, find, Option, Some, None, option_map, unwrap_or, option_and_then, bytes_eq, slice_get, AllPairs}
use Rattle.std.specs.List.{list_any, list_all}
use Rattle.std.specs.Int.RustNames.{int_lt, int_le}
use Rattle.pl_spec.specs.declared.AssetRow.{AssetRow}
use Rattle.pl_spec.specs.declared.AdjustmentKind.{AdjustmentKind}
use Rattle.pl_spec.specs.declared.Column.{Column}
use Rattle.pl_spec.specs.declared.Column.TheVariants.{OpenPrice, High, Low, Close, Volume}
use Rattle.pl_spec.specs.declared.Figure.{Figure}
use Rattle.pl_spec.specs.Rounding.{MISSING, Fraction}
use Rattle.pl_spec.specs.Numbers.{NumberRow, number_at}

-- from the day start on the asset sid has the text as its label under the name; an empty text says that it
-- has none
pub record LabelRow : Type 0 where
  pub name : List ℕ
  pub sid : ℕ
  pub start : ℤ
  pub text : List ℕ

pub record Bar : Type 0 where
  pub sid : ℕ
  pub session : ℕ
  pub open_price : ℤ
  pub high : ℤ
  pub low : ℤ
  pub close : ℤ
  pub volume : ℤ

-- what an adjustment changes: it scales the cells of earlier bars by a ratio, or overwrites one cell, that of
-- a column in the bar of the session of a day
pub data Change : Type 0 where
  Scale : Fraction → Change
  Overwrite : (bar_day : ℤ) (column : Column) (value : ℤ) → Change

-- an adjustment without its asset: from its day on, earlier bars are seen with its change
pub record Event : Type 0 where
  pub kind : AdjustmentKind
  pub day : ℤ
  pub change : Change

pub record Adjustment : Type 0 where
  pub sid : ℕ
  pub event : Event

-- The texts are the distinct label texts, by their codes.
pub record World : Type 0 where
  pub days : List ℤ
  pub assets : List AssetRow
  pub labels : List LabelRow
  pub texts : List (List ℕ)
  pub bars : List Bar
  pub adjustments : List Adjustment
  pub numbers : List NumberRow

-- the adjustments of asset a, in the order in which they act
abbrev pub events_of : World → ℕ → List Event
events_of w a = map (λ x. x.event) (filter (λ x. x.sid == a) w.adjustments)

-- The days ascend, and so do the assets' sids. The adjustments of an asset stand by day; on one day splits
-- come before mergers, these before dividends and these before revisions, each in the order of their table or
-- file (Order says so), but the laws need the order of days alone.
pub record IsWorld (w : World) : Type 0 where
  pub days_ascend : AllPairs (λ a b. a <ℤ b) w.days
  pub sids_ascend : AllPairs (λ a b. a.sid < b.sid) w.assets
  pub events_in_order : (a : ℕ) → AllPairs (λ e f. e.day ≤ℤ f.day) (events_of w a)

-- the day of session d, where there is such a session
abbrev pub day_of : World → ℤ → Option ℤ
day_of w (pos d) = slice_get w.days d
day_of w (negsuc d) = None

-- an asset exists later than its start and up to its end
abbrev pub lives_on : ℤ → AssetRow → Bool
lives_on day a = int_lt a.start day && int_le day a.end

-- the sids that exist on session d, ascending
abbrev pub living_sids : World → ℤ → List ℕ
living_sids w d = unwrap_or (option_map (λ day. map (λ a. a.sid) (filter (lives_on day) w.assets)) (day_of w d)) []

-- asset a exists on session d
abbrev pub exists : World → ℕ → ℤ → Bool
exists w a d = list_any (λ x. x == a) (living_sids w d)

abbrev pub column_number : Column → ℕ
column_number OpenPrice = 0
column_number High = 1
column_number Low = 2
column_number Close = 3
column_number Volume = 4

abbrev pub cell_of : Column → Bar → ℤ
cell_of OpenPrice b = b.open_price
cell_of High b = b.high
cell_of Low b = b.low
cell_of Close b = b.close
cell_of Volume b = b.volume

-- the raw bar's cell, MISSING where there is no bar
abbrev pub cell_in : List Bar → ℕ → Column → ℕ → ℤ
cell_in bars a c s = unwrap_or (option_map (cell_of c) (find (λ b. b.sid == a && b.session == s) bars)) MISSING

abbrev pub bar_cell : World → ℕ → Column → ℤ → ℤ
bar_cell w a c (pos s) = cell_in w.bars a c s
bar_cell w a c (negsuc s) = MISSING

-- the row that starts last
abbrev pub last_started : List LabelRow → Option LabelRow
last_started rows = find (λ r. list_all (λ q. int_le q.start r.start) rows) rows

-- a label text, where there is a row and its text is not empty
abbrev pub nonempty : List ℕ → Option (List ℕ)
nonempty [] = None
nonempty (b ∷ bs) = Some (b ∷ bs)

-- the row labels asset a under the name, and has started by the day
abbrev pub is_label_of : List ℕ → ℕ → ℤ → LabelRow → Bool
is_label_of name a day r = bytes_eq r.name name && r.sid == a && int_le r.start day

-- the label of asset a under the name on session d
abbrev pub label_at : World → List ℕ → ℕ → ℤ → Option (List ℕ)
label_at w name a d =
    option_and_then (λ day. option_and_then (λ r. nonempty r.text) (last_started (filter (is_label_of name a day) w.labels))) (day_of w d)

-- the number of asset a under the name on session d, or its age, missing where there is none
abbrev pub known_number : World → Figure → List ℕ → ℕ → ℤ → ℤ
known_number w f name a d = unwrap_or (option_map (number_at f w.numbers name a) (day_of w d)) MISSING
