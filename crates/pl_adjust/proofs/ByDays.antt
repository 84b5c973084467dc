-- Columns and adjustments as rows, and those up to a day.
use Rattle.std.proofs.Common.{◌≡◌, ℕ, ℤ, List, [], ◌∷◌, map, filter, refl, sym, ◌∙◌, ap}
use Rattle.std.specs.Int.RustNames.{int_le}
use Rattle.pl_spec.specs.AsOf.{adjustments_by}
use Rattle.pl_spec.specs.Parts.{ColumnAdjustment}
use Rattle.pl_spec.proofs.Lists.{filter-map}
use Rattle.pl_adjust.specs.declared.adjust.Adjust.{Adjust}
use Rattle.pl_adjust.specs.Events.{event_of}
use Rattle.pl_adjust.specs.Columns.{in_columns}
use Rattle.pl_adjust.specs.Rows.{row_of, rows_in}

pub rows_are : (cols : List ℕ) (xs : List Adjust) → map row_of (rows_in cols xs) ≡ in_columns cols xs
rows_are [] xs = refl
rows_are (col ∷ cols) [] = refl
rows_are (col ∷ cols) (x ∷ xs) = ap (λ l. record { col = col; event = event_of x } ∷ l) (rows_are cols xs)

pub rows_by-are : (day : ℤ) (cols : List ℕ) (xs : List Adjust)
    → map row_of (filter (λ r. int_le r.adjust.day day) (rows_in cols xs))
    ≡ adjustments_by day (in_columns cols xs)
rows_by-are day cols xs =
    sym (filter-map (λ (x : ColumnAdjustment). int_le x.event.day day) row_of (rows_in cols xs))
    ∙ ap (adjustments_by day) (rows_are cols xs)
