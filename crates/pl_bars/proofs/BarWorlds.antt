-- The cells of a table in the world that is made of it.
use Rattle.std.proofs.Common.{◌≡◌, ℕ, suc, ◌<◌, ◌==◌, ◌&&◌, Bool, true, false, List, [], ◌∷◌, length, map, All, find, option_map, unwrap_or, refl, sym, ◌∙◌, ap, arith}
use Rattle.std.specs.List.{AllPairs}
use Rattle.pl_spec.specs.Rounding.{MISSING}
use Rattle.pl_spec.specs.World.{cell_in}
use Rattle.pl_spec.specs.World as worlds
use Rattle.pl_spec.specs.Parts.{sid_at, bar_of}
use Rattle.pl_spec.specs.declared.AssetRow.{AssetRow}
use Rattle.pl_spec.specs.declared.BarRow.{BarRow}
use Rattle.pl_spec.specs.declared.Column.{Column}
use Rattle.pl_spec.specs.declared.Column.TheVariants.{OpenPrice, High, Low, Close, Volume}
use Rattle.pl_lifetimes.proofs.Columns.{same_col}
use Rattle.pl_bars.specs.Bars.{is_at, cell_of, cell_at}
use Rattle.pl_bars.specs.Worlds.{CellsAreRaw}

same_cell : (assets : List AssetRow) (column : Column) (b : BarRow) → cell_of column b ≡ worlds.cell_of column (bar_of assets b)
same_cell assets OpenPrice b = refl
same_cell assets High b = refl
same_cell assets Low b = refl
same_cell assets Close b = refl
same_cell assets Volume b = refl

cells : (assets : List AssetRow) → AllPairs (λ a b. a.sid < b.sid) assets → (bars : List BarRow) → All (λ b. b.col < length assets) bars
    → (col : ℕ) (column : Column) (session : ℕ) → col < length assets
    → unwrap_or (option_map (cell_of column) (find (is_at col session) bars)) MISSING ≡ cell_in (map (bar_of assets) bars) (sid_at assets col) column session
cells assets up [] inside col which session h = refl
cells assets up (b ∷ bars) inside col which session h =
    here (b.col == col && b.session == session) refl (cells assets up bars (λ k d l. inside (suc k) d (omega arith)) col which session h)
  where
    same_test : (b.col == col && b.session == session) ≡ (sid_at assets b.col == sid_at assets col && b.session == session)
    same_test = ap (λ t. t && b.session == session) (sym (same_col assets up b.col col (inside 0 b (omega arith)) h))

    here : (t : Bool) → (b.col == col && b.session == session) ≡ t
        → unwrap_or (option_map (cell_of which) (find (is_at col session) bars)) MISSING ≡ cell_in (map (bar_of assets) bars) (sid_at assets col) which session
        → unwrap_or (option_map (cell_of which) (find (is_at col session) (b ∷ bars))) MISSING ≡ cell_in (map (bar_of assets) (b ∷ bars)) (sid_at assets col) which session
    here true t more = rw (t, sym same_test ∙ t) (same_cell assets which b)
    here false t more = rw (t, sym same_test ∙ t) more

pub cells_raw : CellsAreRaw
unfolding cell_at
cells_raw days assets labels texts bars adjustments numbers up inside col column session h = cells assets up bars inside col column session h
