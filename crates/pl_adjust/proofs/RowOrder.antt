-- Rows by place, as the definitions know them.
use Rattle.std.proofs.Common.{◌≡◌, ℕ, ◌+◌, ℤ, List, map, length, get_or, sym, ◌∙◌, ap, arith}
use Rattle.std.specs.List.Sorted.{IsPermutation, IsSortedByKey, IsStableByKey, ties}
use Rattle.std.specs.declared.cmp.Ordering.{Ordering}
use Rattle.std.specs.Ordering.{nat_cmp, int_cmp, ordering_then}
use Rattle.std.proofs.lemmas.List.{get_or-map, length-map}
use Rattle.std.proofs.lemmas.List.Sorted.{IsPermutation-map}
use Rattle.pl_spec.specs.Parts.{ColumnAdjustment}
use Rattle.pl_spec.proofs.Lists.{filter-map}
use Rattle.pl_adjust.specs.declared.adjust.Change.TheVariants.{Scale}
use Rattle.pl_adjust.specs.declared.columns.Row.{Row}
use Rattle.pl_adjust.specs.Columns.{IsByPlace}
use Rattle.pl_adjust.specs.Rows.{row_of}
use Rattle.pl_adjust.proofs.Kept.{in_front}

abbrev pub place_of : Row → ℕ × ℤ
place_of r = (r.col, r.adjust.day)

abbrev pub pair_cmp : ℕ × ℤ → ℕ × ℤ → Ordering
pair_cmp x y = ordering_then (nat_cmp x.0 y.0) (int_cmp x.1 y.1)

-- a row of the same column and day
abbrev to_row : ColumnAdjustment → Row
to_row x = record { col = x.col; adjust = record { day = x.event.day; kind = x.event.kind; change = Scale (record { num = 1; den = 1 }) } }

pub by_place : (xs ys : List Row) → IsPermutation xs ys → IsSortedByKey place_of pair_cmp ys → IsStableByKey place_of pair_cmp xs ys → IsByPlace (map row_of xs) (map row_of ys)
by_place xs ys same sorted stable = record {
  same = IsPermutation-map row_of xs ys same;
  sorted = λ k d low h.
      let long : length (map row_of ys) ≡ length ys = length-map ys row_of in
      let now : get_or (map row_of ys) k d ≡ row_of (get_or ys k (to_row d)) = get_or-map row_of ys k (to_row d) d (omega arith) in
      let next : get_or (map row_of ys) (k + 1) d ≡ row_of (get_or ys (k + 1) (to_row d)) = get_or-map row_of ys (k + 1) (to_row d) d (omega arith) in
      rw (now, next) (sorted k (to_row d) low (omega arith));
  stable = λ z. filter-map (ties in_front z) row_of ys ∙ ap (map row_of) (stable (to_row z)) ∙ sym (filter-map (ties in_front z) row_of xs);
}
