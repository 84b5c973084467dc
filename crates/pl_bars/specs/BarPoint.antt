-- Places among bars that stand by column and session, and their order.
use Rattle.std.specs.Prelude.{◌≡◌, ℕ, ◌+◌, ◌<◌, ◌≤◌, true, false, List, length, get_or, AllPairs}
use Rattle.std.specs.List.Sorted.{IsPartitionPoint}
use Rattle.pl_spec.specs.declared.BarRow.{BarRow}
use Rattle.pl_bars.specs.Bars.{is_at, is_before, key_of}

-- below n the bars stand before the column and session, and from n on none does
abbrev pub BarPoint : ℕ → ℕ → List BarRow → ℕ → Type 0
BarPoint col session rows n = IsPartitionPoint (λ b. is_before col session b ≡ true) (λ b. is_before col session b ≡ false) rows n

-- below n they do
abbrev pub AllBefore : ℕ → ℕ → List BarRow → ℕ → Type 0
AllBefore col session rows n = (k : ℕ) (d : BarRow) → k < n → is_before col session (get_or rows k d) ≡ true

-- from n on none does
abbrev pub NoneBefore : ℕ → ℕ → List BarRow → ℕ → Type 0
NoneBefore col session rows n = (k : ℕ) (d : BarRow) → n ≤ k → k < length rows → is_before col session (get_or rows k d) ≡ false

-- from n on stand the bars of the column on so many sessions, from the first one on
pub record IsStretch (col first : ℕ) (rows : List BarRow) (n count : ℕ) : Type 0 where
  pub within : n + count ≤ length rows
  pub each : (k : ℕ) (d : BarRow) → k < count → is_at col (first + k) (get_or rows (n + k) d) ≡ true

-- the bars stand by column and session, as their numbers tell
abbrev pub Rise : List BarRow → Type 0
Rise rows = AllPairs (λ a b. key_of a < key_of b) rows

-- and the bar after the last of them
abbrev pub IsAfter : BarRow → List BarRow → Type 0
IsAfter b rows = (k : ℕ) (d : BarRow) → k + 1 ≡ length rows → key_of (get_or rows k d) < key_of b
