-- Over one session a mean, a sum and an extremum are the value itself.
use Rattle.std.proofs.Common.{◌≡◌, ◌==◌, ◌≤◌, false, not, cond, ℤ, pos, ◌+ℤ◌, List, [], ◌∷◌, length, unwrap_or, refl, sym, ◌∙◌, ap, subst, arith, inl, inr}
use Rattle.std.specs.List.{All, reduce}
use Rattle.std.specs.Int.{int_max, int_min}
use Rattle.std.specs.Int.RustNames.{unsigned_abs}
use Rattle.std.proofs.lemmas.Int.{ints}
use Rattle.std.proofs.lemmas.List.Elements.{All-from_recursion}
use Rattle.pl_spec.specs.Rounding.{MISSING, LIMIT, IsCell, is_missing, div_round, to_cell, quot}
use Rattle.pl_spec.specs.Cells.{present_values, total, greatest, least}
use Rattle.pl_pipeline.specs.Formula.{mean, if_any, formula}
use Rattle.pl_laws.specs.ListLaws.{summaries}
use Rattle.pl_spec.proofs.Within.{to_cell-within}
use Rattle.pl_spec.proofs.Within.{missing-far}
use Rattle.pl_spec.proofs.Nearest.{nearest_is-div_round}

one_present : (x : ℤ) → is_missing x ≡ false → present_values (x ∷ []) ≡ x ∷ []
one_present x e = ap (λ b. cond (not b) (x ∷ []) []) e

by-one : (x : ℤ) → div_round x 1 ≡ x
by-one x =
    sym (nearest_is-div_round x 1 x (omega arith) (record {
      near = omega (arith, ints);
      tie = λ e. absurd (omega (arith, ints));
    }))

sum_of_one : (x : ℤ) → pos 0 +ℤ x ≡ x
sum_of_one x = omega (arith, ints)

mean_of_one : (x : ℤ) → unsigned_abs x ≤ LIMIT → mean (x ∷ []) ≡ x
unfolding quot
mean_of_one x h =
    ap (λ l. quot (total l) (pos (length l))) (one_present x (missing-far x h))
    ∙ ap to_cell (ap (λ z. div_round z 1) (sum_of_one x) ∙ by-one x) ∙ to_cell-within x h

sum_is_cell : (x : ℤ) → unsigned_abs x ≤ LIMIT → if_any (x ∷ []) (to_cell (total (present_values (x ∷ [])))) ≡ x
sum_is_cell x h =
    ap (λ l. cond (length l == 0) MISSING (to_cell (total l))) (one_present x (missing-far x h)) ∙ ap to_cell (sum_of_one x) ∙ to_cell-within x h

greatest_of_one : (x : ℤ) → unsigned_abs x ≤ LIMIT → greatest (x ∷ []) ≡ x
greatest_of_one x h = ap (λ l. unwrap_or (reduce int_max l) MISSING) (one_present x (missing-far x h))

least_of_one : (x : ℤ) → unsigned_abs x ≤ LIMIT → least (x ∷ []) ≡ x
least_of_one x h = ap (λ l. unwrap_or (reduce int_min l) MISSING) (one_present x (missing-far x h))

pub one-itself : (x : ℤ) (ys zs : List ℤ) → IsCell x → All (λ kind. formula kind (x ∷ []) ys zs ≡ x) summaries
unfolding formula quot
one-itself x ys zs (inl e) =
    subst (λ (v : ℤ). All (λ kind. formula kind (v ∷ []) ys zs ≡ v) summaries) (sym e)
    (All-from_recursion (λ kind. formula kind (MISSING ∷ []) ys zs ≡ MISSING) summaries (refl, (refl, (refl, (refl, (refl, (refl, tt)))))))
one-itself x ys zs (inr h) =
    All-from_recursion (λ kind. formula kind (x ∷ []) ys zs ≡ x) summaries
    (refl, (mean_of_one x h, (mean_of_one x h, (sum_is_cell x h, (greatest_of_one x h, (least_of_one x h, tt))))))
