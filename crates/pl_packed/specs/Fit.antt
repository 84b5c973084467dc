-- Bars of so many columns and sessions.
use Rattle.std.specs.Prelude.{◌≡◌, ℕ, ◌^◌, ◌<◌, IsTrue, List, length, All, FitsSigned}
use Rattle.std.specs.Int.{w64}
use Rattle.pl_spec.specs.declared.BarRow.{BarRow}
use Rattle.pl_bars.specs.Bars.{AreBars, is_bar_cell}
use Rattle.pl_bars.specs.BarPoint.{IsAfter}

-- the bars stand in order, each in a column and on a session, with five cells
pub record AreKept (cols sessions : ℕ) (bars : List BarRow) : Type 0 where
  pub stand : AreBars bars
  pub in_cols : All (λ b. b.col < cols) bars
  pub on_sessions : All (λ b. b.session < sessions) bars
  pub five : All (λ b. length b.cells ≡ 5) bars

-- the bar is in a column and on a session, and its five numbers are cells
pub record IsBar (cols sessions : ℕ) (bar : BarRow) : Type 0 where
  pub col : bar.col < cols
  pub session : bar.session < sessions
  pub cells : All (λ v. IsTrue (is_bar_cell v)) bar.cells
  pub five : length bar.cells ≡ 5

-- and it may stand after these
abbrev pub IsNext : ℕ → ℕ → List BarRow → BarRow → Type 0
IsNext cols sessions before bar = IsAfter bar before × IsBar cols sessions bar

-- a bar that six words can hold
pub record IsSmall (bar : BarRow) : Type 0 where
  pub col : bar.col < 2 ^ 32
  pub session : bar.session < 2 ^ 32
  pub cells : All (λ v. FitsSigned w64 v) bar.cells
  pub five : length bar.cells ≡ 5
