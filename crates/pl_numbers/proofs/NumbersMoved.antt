-- Records of numbers in another order are read as the same rows in some order.
use Rattle.std.proofs.Common.{◌≡◌, List, ◌∷◌, IsPermutation, Ok, refl, ap, subst, inl, inr}
use Rattle.std.proofs.lemmas.List.Sorted.{IsPermutation-sym, IsPermutation-trans}
use Rattle.pl_spec.specs.Limits.{most_numbers}
use Rattle.pl_spec.specs.Parts.{ColumnNumber}
use Rattle.pl_spec.specs.declared.AssetRow.{AssetRow}
use Rattle.pl_records.specs.Reading.{Record, ◌>>=◌}
use Rattle.pl_records.proofs.Orders.{Looks, under-permuted}
use Rattle.pl_records.proofs.Readings.{made-of}
use Rattle.pl_records.proofs.Sorts.{sorted-permutes}
use Rattle.pl_assets.proofs.Dated.{clash, flips}
use Rattle.pl_numbers.specs.Numbers.{DataFault, NumberTable, breaks, row_of, table_of, key_in, names_of, number_or_rule, number_rows_in, numbers_of, header}
use Rattle.pl_numbers.specs.Numbers as rules
use Rattle.pl_numbers.proofs.NumberKeys.{numbers}

sorted : (rows found : List ColumnNumber) → IsPermutation rows found → IsPermutation (table_of rows).rows (table_of found).rows
sorted rows found h =
    let first = sorted-permutes (key_in (names_of rows)) rows in
    let second = sorted-permutes (key_in (names_of found)) found in
    IsPermutation-trans (table_of rows).rows rows (table_of found).rows (IsPermutation-sym rows (table_of rows).rows first)
    (IsPermutation-trans rows found (table_of found).rows h second)

module _ (assets : List AssetRow) where
  looks : (q : DataFault) → Looks most_numbers (clash numbers) (row_of assets) (breaks assets) q
  looks rules.TooMany = inl (λ before r. refl)
  looks rules.Duplicate = inr (inl (λ before r. refl))
  looks fault = inr (inr (λ before r. refl))

  pub numbers-moved : (first : Record) (records others : List Record) → IsPermutation records others → (table : NumberTable) → numbers_of assets (first ∷ records) ≡ Ok table
      → (other : NumberTable) × (numbers_of assets (first ∷ others) ≡ Ok other) × IsPermutation table.rows other.rows
  unfolding numbers_of number_rows_in number_or_rule
  numbers-moved first records others m table e =
      let was = made-of table_of (number_rows_in assets (first ∷ records)) table e in
      let moved = under-permuted most_numbers (clash numbers) (row_of assets) (breaks assets) rules.rules rules.BadField (number_or_rule assets) (λ before r. refl) (flips numbers) looks
      header rules.BadHeader first records others m was.0 was.1 in
      (table_of moved.0, ap (λ x. x >>= λ rows. Ok (table_of rows)) moved.1, subst (λ (t : NumberTable). IsPermutation t.rows (table_of moved.0).rows) was.2 (sorted was.0 moved.0 moved.2))
