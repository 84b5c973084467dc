-- A bit for each column and session, column by column, in words of 64 bits.
use Rattle.std.specs.Prelude.{◌≡◌, ℕ, ◌+◌, ◌*◌, ◌/◌, ◌%◌, ◌==◌, ◌<◌, Bool, List, slice_index}
use Rattle.std.specs.List.{list_any}
use Rattle.std.specs.Int.{bit_at}
use Rattle.pl_spec.specs.declared.BarRow.{BarRow}
use Rattle.pl_bars.specs.Bars.{is_at}
use Rattle.pl_bars.specs.declared.bar_set.BarSet.{BarSet}

-- bit k of the words, one word after the other, is set
abbrev pub bit_in : List ℕ → ℕ → Bool
bit_in words k = bit_at (slice_index words (k / 64)) (k % 64) == 1

abbrev pub has_bar : BarSet → ℕ → ℕ → Bool
has_bar set col session = bit_in set.words.items (col * set.sessions + session)

-- the set is of n columns and m sessions, and has the bars of the rows
pub record AreBarsIn (set : BarSet) (n m : ℕ) (rows : List BarRow) : Type 0 where
  pub cols : set.cols ≡ n
  pub sessions : set.sessions ≡ m
  pub each : (c s : ℕ) → c < n → s < m → has_bar set c s ≡ list_any (is_at c s) rows
