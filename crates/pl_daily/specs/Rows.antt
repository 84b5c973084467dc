-- Rows of cells, one for each asset, and windows of them, by what is held.
use Rattle.std.specs.Prelude.{◌≡◌, ℕ, ◌<◌, Bool, false, ◌&&◌, ℤ, pos, List, [], length, map, take, get_or, slice_get, ◌-◌, Option, Some, None, option_map, unwrap_or}
use Rattle.std.specs.Borrow.{Bor}
use Rattle.circular_buffer.specs.Buffer.{keep_last}
use Rattle.pl_spec.specs.declared.AssetRow.{AssetRow}
use Rattle.pl_spec.specs.Parts.{ColumnNumber}
use Rattle.pl_spec.specs.Rounding.{IsCell}
use Rattle.pl_spec.specs.Cells.{is_true}
use Rattle.pl_pipeline.specs.Term.{Input}
use Rattle.pl_pipeline.specs.Term.Input.{BarColumn, TermInput}
use Rattle.pl_spec.specs.World.{lives_on}
use Rattle.pl_numbers.specs.Numbers.{NumberTable}
use Rattle.pl_values.specs.Arrays.{kept_or}
use Rattle.pl_daily.specs.declared.columns.BarRings.{BarRings}
use Rattle.pl_daily.specs.Changes.{Ring, ring_at}
use Rattle.pl_daily.specs.Columns.{rings_of}
use Rattle.pl_daily.specs.declared.term_day.TermCells.{TermCells}

abbrev pub sids_of : List AssetRow → List ℕ
sids_of assets = map (λ a. a.sid) assets

-- the asset in a place lives on the day
abbrev pub lives_at : List AssetRow → ℤ → ℕ → Bool
lives_at assets day i = unwrap_or (option_map (lives_on day) (slice_get assets i)) false

-- and passes the mask, by the mask's row
abbrev pub is_kept_by : List AssetRow → ℤ → Option (List ℤ) → ℕ → Bool
is_kept_by assets day None i = lives_at assets day i
is_kept_by assets day (Some mask) i = lives_at assets day i && is_true (get_or mask i (pos 0))

-- the row shows the cells of f where the asset is kept, and the empty value elsewhere
pub record Shows (f : ℕ → ℤ) (empty : ℤ) (keep row : List ℤ) : Type 0 where
  pub long : length row ≡ length keep
  pub each : (i : ℕ) → i < length keep → get_or row i (pos 0) ≡ kept_or empty keep f i
  pub cell : (i : ℕ) → i < length keep → IsCell (get_or row i (pos 0))

-- the rows of numbers that are lent, none where no numbers are
abbrev pub rows_lent : Option (Bor NumberTable) → List ColumnNumber
rows_lent None = []
rows_lent (Some b) = b.now.rows

-- ---- what is held of terms

abbrev pub row_of : Option TermCells → List ℤ
row_of None = []
row_of (Some t) = t.row.items

abbrev pub rings_in : Option TermCells → List Ring
rings_in None = []
rings_in (Some t) = t.rings.rings.items

abbrev pub capacity_of : Option TermCells → ℕ
capacity_of None = 0
capacity_of (Some t) = t.rings.capacity

-- the row of an input that is a term
abbrev pub input_row : List TermCells → Option Input → List ℤ
input_row terms None = []
input_row terms (Some (BarColumn c)) = []
input_row terms (Some (TermInput u)) = row_of (slice_get terms u)

-- the cells of a list up to the one that is so many before its last, as many as size
abbrev pub ending : ℕ → ℕ → List ℤ → List ℤ
ending size after cells = keep_last size (take (length cells - after) cells)

-- those of an input's ring for the asset in a place
abbrev pub ring_window : BarRings → List TermCells → ℕ → ℕ → Option Input → ℕ → List ℤ
ring_window bars terms size after None i = []
ring_window bars terms size after (Some (BarColumn c)) i = ending size after (ring_at (rings_of bars c).rings.items i).items
ring_window bars terms size after (Some (TermInput u)) i = ending size after (ring_at (rings_in (slice_get terms u)) i).items
