-- Sums of cells, row by row.
use Rattle.std.proofs.Common.{◌≡◌, ℕ, ◌+◌, ◌*◌, ◌<◌, ◌≤◌, ℤ, pos, ◌+ℤ◌, List, [], ◌∷◌, ◌++◌, length, take, get_or, Some, ap, ◌∙◌, arith, FitsSigned}
use Rattle.std.specs.Int.{w128}
use Rattle.jiff_core.proofs.SignedLemmas.{unsigned_abs-parts}
use Rattle.std.specs.Prelude.{fold, slice_get, unsigned_abs}
use Rattle.std.proofs.lemmas.Int.{ints}
use Rattle.std.proofs.lemmas.List.{take_more, map-append}
use Rattle.std.proofs.lemmas.List.Sums.{fold-append}
use Rattle.std.proofs.lemmas.Option.{get_or_from_slice_get}
use Rattle.pl_spec.specs.Limits.{most_columns}
use Rattle.pl_spec.specs.Rounding.{LIMIT}
use Rattle.pl_spec.specs.World.{World}
use Rattle.pl_pipeline.specs.Table.{Pipeline, NamedColumn, Row, value_of, summand}
use Rattle.pl_table.specs.Rows.{row_values}
use Rattle.pl_table.specs.Sums.{values_sum, rows_sum}

from-there : {A : Type 0} (f : A → ℤ) (z : ℤ) (xs : List A) → fold (λ n x. n +ℤ f x) z xs ≡ z +ℤ fold (λ n x. n +ℤ f x) (pos 0) xs
from-there f z [] = omega (arith, ints)
from-there f z (x ∷ xs) =
    let a = from-there f (z +ℤ f x) xs in
    let b = from-there f (pos 0 +ℤ f x) xs in
    omega (arith, ints, a, b)

sum-append : {A : Type 0} (f : A → ℤ) (xs ys : List A) → fold (λ n x. n +ℤ f x) (pos 0) (xs ++ ys) ≡ fold (λ n x. n +ℤ f x) (pos 0) xs +ℤ fold (λ n x. n +ℤ f x) (pos 0) ys
sum-append f xs ys = fold-append (λ n x. n +ℤ f x) (pos 0) xs ys ∙ from-there f (fold (λ n x. n +ℤ f x) (pos 0) xs) ys

pub rows_sum-append : (texts : List (List ℕ)) (a b : List Row) → rows_sum texts (a ++ b) ≡ rows_sum texts a +ℤ rows_sum texts b
rows_sum-append texts a b = sum-append (λ (r : Row). values_sum texts r.values) a b

pub rows_sum-cons : (texts : List (List ℕ)) (r : Row) (rs : List Row) → rows_sum texts (r ∷ rs) ≡ values_sum texts r.values +ℤ rows_sum texts rs
rows_sum-cons texts r rs =
    let f = from-there (λ (x : Row). values_sum texts x.values) (pos 0 +ℤ values_sum texts r.values) rs in
    omega (arith, ints, f)

pub values_sum-more : (w : World) (p : Pipeline) (a : ℕ) (d : ℤ) (cs : List NamedColumn) (i : ℕ) (c : NamedColumn) → i < length cs → slice_get cs i ≡ Some c
    → values_sum w.texts (row_values w p a d (take (i + 1) cs)) ≡ values_sum w.texts (row_values w p a d (take i cs)) +ℤ summand w.texts (value_of w p c.term a d)
values_sum-more w p a d cs i c h e =
    let f = λ (x : NamedColumn). value_of w p x.term a d in
    ap (λ (l : List NamedColumn). values_sum w.texts (row_values w p a d l)) (take_more cs i c h)
    ∙ ap (values_sum w.texts) (map-append f (take i cs) (get_or cs i c ∷ []))
    ∙ sum-append (summand w.texts) (row_values w p a d (take i cs)) (row_values w p a d (get_or cs i c ∷ []))
    ∙ ap (λ (x : NamedColumn). values_sum w.texts (row_values w p a d (take i cs)) +ℤ values_sum w.texts (row_values w p a d (x ∷ []))) (get_or_from_slice_get cs i c c e)
    ∙ ap (λ (x : ℤ). values_sum w.texts (row_values w p a d (take i cs)) +ℤ x) (one (summand w.texts (value_of w p c.term a d)))
  where
    one : (x : ℤ) → pos 0 +ℤ x ≡ x
    one x = omega (arith, ints)

-- one cell more
pub sum-grows : (a r : ℤ) (i : ℕ) → unsigned_abs a ≤ i * LIMIT → unsigned_abs r ≤ LIMIT → i < most_columns → FitsSigned w128 (a +ℤ r) × (unsigned_abs (a +ℤ r) ≤ (i + 1) * LIMIT)
sum-grows a r i h k few =
    let size : unsigned_abs (a +ℤ r) ≤ (i + 1) * LIMIT = omega (arith, ints, unsigned_abs-parts a, unsigned_abs-parts r, unsigned_abs-parts (a +ℤ r)) in
    (record { sfits = omega (arith, ints, unsigned_abs-parts (a +ℤ r), size) }, size)
