-- Records of labels in another order are read as the same rows in some order.
use Rattle.std.proofs.Common.{◌≡◌, List, ◌∷◌, IsPermutation, Ok, refl, ap, subst, inl, inr}
use Rattle.pl_spec.specs.Limits.{most_labels}
use Rattle.pl_spec.specs.declared.AssetRow.{AssetRow}
use Rattle.pl_records.specs.Reading.{Record, ◌>>=◌}
use Rattle.pl_records.proofs.Orders.{Looks, under-permuted}
use Rattle.pl_records.proofs.Readings.{made-of}
use Rattle.pl_assets.specs.Labels.{DataFault, LabelTable, breaks, row_of, table_of, label_or_rule, label_rows_in, labels_of, header}
use Rattle.pl_assets.specs.Labels as rules
use Rattle.pl_assets.proofs.Dated.{clash, flips}
use Rattle.pl_assets.proofs.LabelKeys.{labels}

module _ (assets : List AssetRow) where
  looks : (q : DataFault) → Looks most_labels (clash labels) (row_of assets) (breaks assets) q
  looks rules.TooMany = inl (λ before r. refl)
  looks rules.DuplicateStart = inr (inl (λ before r. refl))
  looks fault = inr (inr (λ before r. refl))

  pub labels-moved : (first : Record) (records others : List Record) → IsPermutation records others → (table : LabelTable) → labels_of assets (first ∷ records) ≡ Ok table
      → (other : LabelTable) × (labels_of assets (first ∷ others) ≡ Ok other) × IsPermutation table.rows other.rows
  unfolding labels_of label_rows_in label_or_rule
  labels-moved first records others m table e =
      let was = made-of table_of (label_rows_in assets (first ∷ records)) table e in
      let moved = under-permuted most_labels (clash labels) (row_of assets) (breaks assets) rules.rules rules.BadField (label_or_rule assets) (λ before r. refl) (flips labels) looks
      header rules.BadHeader first records others m was.0 was.1 in
      (table_of moved.0, ap (λ x. x >>= λ rows. Ok (table_of rows)) moved.1, subst (λ (t : LabelTable). IsPermutation t.rows moved.0) was.2 moved.2)
