-- A tile: the rows of a few sessions side by side, each with a mark and its cells.
use Rattle.std.specs.Prelude.{◌≡◌, ℕ, ◌+◌, ◌-◌, ◌*◌, ◌%◌, ◌<◌, ◌≤◌, true, min, ℤ, pos, List, length, get_or, slice_get, Some}
use Rattle.pl_spec.specs.Rounding.{IsCell}
use Rattle.pl_spec.specs.Cells.{is_true}
use Rattle.pl_pipeline.specs.Table.{NamedColumn}
use Rattle.pl_cross.specs.Arrays.{sid_in}
use Rattle.pl_values.specs.Arrays.{cell_of}
use Rattle.pl_table.specs.declared.outcome.Outcome.{Outcome}
use Rattle.pl_table.specs.Outcomes.{pipeline_in, sids_in, world_in}
use Rattle.pl_table.specs.Rows.{has_row}

-- the greatest number of its sessions
abbrev pub height : ℕ
height = 16

-- how long it is for so many assets and columns
abbrev pub tile_len : ℕ → ℕ → ℕ
tile_len assets columns = height * assets * (columns + 1)

-- where number c of the row of place i on its j-th session stands
abbrev pub tile_at : ℕ → ℕ → ℕ → ℕ → ℕ → ℕ
tile_at places width j i c = (j * places + i) * width + c

-- number c of a row of an outcome, by its tile
abbrev pub in_row : Outcome → List ℤ → ℕ → ℕ → ℕ → ℤ
in_row o tile j i c = get_or tile (tile_at (length o.cols.now) (length (pipeline_in o).columns + 1) j i c) (pos 0)

-- the mark says whether there is a row; the cells stand after it
pub record IsTileRow (o : Outcome) (session place : ℕ) (row : ℕ → ℤ) : Type 0 where
  pub mark : is_true (row 0) ≡ has_row (world_in o) (pipeline_in o) session (sid_in (sids_in o) place)
  pub each : is_true (row 0) ≡ true → (k : ℕ) (c : NamedColumn) → slice_get (pipeline_in o).columns k ≡ Some c → row (k + 1) ≡ cell_of (world_in o) (pipeline_in o) (sids_in o) c.term place session
  pub cell : is_true (row 0) ≡ true → (k : ℕ) → k < length (pipeline_in o).columns → IsCell (row (k + 1))

-- the rows of the first n places, on the sessions from one on
abbrev pub HasRows : Outcome → ℕ → ℕ → List ℤ → Type 0
HasRows o first n tile = (j i : ℕ) → j < height → first + j ≤ o.to → i < n → IsTileRow o (first + j) i (in_row o tile j i)

-- Number c of the rows of place i is f's on the first n sessions, and all other numbers are as before.
pub record IsStrip (f : ℕ → ℤ) (places width n i c : ℕ) (old new : List ℤ) : Type 0 where
  pub size : length new ≡ length old
  pub written : (j : ℕ) → j < n → get_or new (tile_at places width j i c) (pos 0) ≡ f j
  pub others : (j t d : ℕ) → t < places → d < width → (t ≡ i → d ≡ c → ⊥) → get_or new (tile_at places width j t d) (pos 0) ≡ get_or old (tile_at places width j t d) (pos 0)

-- all numbers of the rows of other places are as before
pub record IsPlace (places width i : ℕ) (old new : List ℤ) : Type 0 where
  pub size : length new ≡ length old
  pub others : (j t d : ℕ) → t < places → d < width → (t ≡ i → ⊥) → get_or new (tile_at places width j t d) (pos 0) ≡ get_or old (tile_at places width j t d) (pos 0)

-- how many sessions a tile has that begins with one, up to another
abbrev pub sessions_in : ℕ → ℕ → ℕ
sessions_in first to = min height (to + 1 - first)

-- the first session of the tile that has a session; the first of all begins with one
abbrev pub first_in : ℕ → ℕ → ℕ
first_in from session = session - (session - from) % height
