use Rattle.std.proofs.Common.{◌≡◌, ◌+◌, ◌<◌, ◌≤◌, [], ℕ, ℤ, Some, length, get_or, slice_get, pos}
use Rattle.pl_spec.specs.Rounding.{IsCell}
use Rattle.pl_assets.specs.LabelPlaces.{key}
use Rattle.pl_numbers.specs.Numbers.{number_on}
use Rattle.pl_numbers.specs.NumberPlaces.{AllLow, shown_rows}
use Rattle.pl_numbers.proofs.search.fill.Given as goal

abbrev pub invariant-loop-k : goal.invariant-loop-k
invariant-loop-k l = record {
  within : l.at ≤ length l.rows.places.items;
  low : (j : ℕ) (day : ℤ) → l.k ≤ j → slice_get l.sessions (l.first + j) ≡ Some day → AllLow l.rows.places.items (key l.name l.col day) l.at;
  values : (j : ℕ) → j < l.k → get_or l.into j (pos 0) ≡ number_on l.figure (shown_rows l.rows) (get_or l.rows.names l.name []) l.col (get_or l.sessions (l.first + j) (pos 0));
  cells : (j : ℕ) → j < l.k → IsCell (get_or l.into j (pos 0));
}
