-- The numbers of a table are those of the rows of its assets' sids.
use Rattle.std.proofs.Common.{◌≡◌, ◌&&◌, ℕ, ◌<◌, length, ℤ, List, All, AllPairs, get_or, map, filter, Option, Some, None, option_map, unwrap_or, bytes_eq, refl, sym, ◌∙◌, ap}
use Rattle.std.specs.Int.RustNames.{int_le}
use Rattle.pl_spec.specs.Numbers.{NumberRow, is_number_of, last_known, read_of}
use Rattle.pl_spec.specs.declared.AssetRow.{AssetRow}
use Rattle.pl_spec.specs.Parts.{ColumnNumber, number_of, sid_at}
use Rattle.pl_spec.specs.Rounding.{MISSING}
use Rattle.pl_assets.proofs.Dated.{last_row, last-mapped}
use Rattle.pl_lifetimes.proofs.Columns.{same_col}
use Rattle.pl_spec.proofs.Lists.{filter-same}
use Rattle.pl_spec.specs.declared.Figure.{Figure}
use Rattle.pl_spec.specs.declared.Figure.TheVariants as figure
use Rattle.pl_numbers.specs.Numbers.{by_column, known_on, number_on}
use Rattle.pl_numbers.proofs.NumberKeys.{numbers}
use Rattle.pl_numbers.specs.NumberLaws.{KnownAreThose, NumbersAreThose}

-- what is asked of a row, read in two ways that agree on it
alike : {A : Type 0} (what : NumberRow → A) (f g : ColumnNumber → NumberRow) → ((r : ColumnNumber) → what (f r) ≡ what (g r)) → (o : Option ColumnNumber) → option_map what (option_map f o) ≡ option_map what (option_map g o)
alike what f g same None = refl
alike what f g same (Some r) = ap Some (same r)

-- ---- by column and by sid the same rows pass

module _ (assets : List AssetRow) (rows : List ColumnNumber) (up : AllPairs (λ a b. a.sid < b.sid) assets) (inside : All (λ r. r.col < length assets) rows) (name : List ℕ) (col : ℕ) (day : ℤ) (h : col < length assets) where
  -- the row of the column that was known last
  newest : Option ColumnNumber
  newest = last_row numbers (filter (λ r. is_number_of name col day (by_column r)) rows)

  rows_pass : filter (λ r. is_number_of name (sid_at assets col) day (number_of assets r)) rows ≡ filter (λ r. is_number_of name col day (by_column r)) rows
  rows_pass =
      filter-same _ _ rows (λ k d l.
      ap (λ b. (bytes_eq (get_or rows k d).name name && b) && int_le (get_or rows k d).known day) (same_col assets up (get_or rows k d).col col (inside k d l) h))

  same_newest : {A : Type 0} (what : NumberRow → A) → ((r : ColumnNumber) → what (number_of assets r) ≡ what (by_column r))
      → option_map what (last_known (filter (is_number_of name (sid_at assets col) day) (map (number_of assets) rows)))
      ≡ option_map what (last_known (filter (is_number_of name col day) (map by_column rows)))
  unfolding newest
  same_newest what same =
      ap (option_map what)
      (last-mapped numbers (λ (n : NumberRow). n.known) (number_of assets) (λ r. refl) (is_number_of name (sid_at assets col) day) rows
      ∙ ap (λ l. option_map (number_of assets) (last_row numbers l)) rows_pass)
      ∙ alike what (number_of assets) by_column same newest
      ∙ ap (option_map what) (sym (last-mapped numbers (λ (n : NumberRow). n.known) by_column (λ r. refl) (is_number_of name col day) rows))

pub numbers_those : NumbersAreThose
unfolding number_on
numbers_those assets rows up inside f name col day h = ap (λ o. unwrap_or o MISSING) (same_newest assets rows up inside name col day h (read_of f day) (read_same f))
  where
    read_same : (f : Figure) (r : ColumnNumber) → read_of f day (number_of assets r) ≡ read_of f day (by_column r)
    read_same figure.Value r = refl
    read_same figure.Days r = refl
    read_same figure.BusinessDays r = refl

pub known_those : KnownAreThose
unfolding known_on
known_those assets rows up inside name col day h = same_newest assets rows up inside name col day h (λ n. n.known) (λ r. refl)
