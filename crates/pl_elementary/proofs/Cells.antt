-- What these operations give of cells are cells.
use Rattle.std.proofs.Common.{◌≡◌, ℕ, zero, suc, ℤ, pos, neg_ℤ, ◌+◌, ◌*◌, ◌/◌, ◌^◌, ◌<◌, ◌≤◌, nat_lt, Bool, true, false, ◌||◌, if◌then◌else◌, unsigned_abs, inl, inr, refl, ap, not, arith}
use Rattle.std.specs.Int.RustNames.{int_lt, int_le}
use Rattle.std.proofs.lemmas.Nat.{mul-le}
use Rattle.std.proofs.lemmas.Bool.{cases_lt}
use Rattle.pl_spec.specs.Rounding.{IsCell, IsRoot, LIMIT, MILLION, MISSING, is_missing, isqrt}
use Rattle.pl_spec.proofs.Roots.{isqrt-is_root}
use Rattle.pl_pipeline.specs.Elementary.{log, size_by, binary_log, exp, sqrt, near_root, sign, maximum, minimum}
use Rattle.pl_pipeline.proofs.Cells.{chosen-has, zero-cell, quot-cell, of_both-cell}
use Rattle.pl_spec.proofs.Within.{present-within}
use Rattle.pl_elementary.proofs.Bits.{few-bits}
use Rattle.pl_elementary.proofs.Parts.{natural-small}

size-few : (n v : ℕ) → size_by n v ≤ n
unfolding size_by
size-few zero v = omega arith
size-few (suc n) v = here (nat_lt v 2) (size-few n (v / 2))
  where
    here : (b : Bool) → size_by n (v / 2) ≤ n → (if b then 0 else suc (size_by n (v / 2))) ≤ suc n
    here true h = omega arith
    here false h = omega arith

pub binary-small : (v : ℕ) → binary_log v < 2 ^ 66
binary-small v = here (size_by 57 v) _ (size-few 57 v) (few-bits 60 _)
  where
    here : (n p : ℕ) → n ≤ 57 → p < 2 ^ 60 → n * 2 ^ 60 + p < 2 ^ 66
    here n p h k = omega arith

pub log-cell : (x : ℤ) → IsCell (log x)
unfolding log
log-cell x =
    chosen-has IsCell (is_missing x || int_le x (pos 0)) MISSING _ (inl refl)
    (inr (natural-small (binary_log (unsigned_abs x)) (binary-small (unsigned_abs x))))

pub exp-cell : (x : ℤ) → IsCell (exp x)
unfolding exp
exp-cell x = chosen-has IsCell _ MISSING _ (inl refl) (chosen-has IsCell _ (pos 0) _ zero-cell (chosen-has IsCell _ _ _ (quot-cell _ _) (quot-cell _ _)))

root-small : (v r : ℕ) → v ≤ LIMIT → r * r ≤ 4 * v * MILLION → (r + 1) / 2 ≤ LIMIT
root-small v r h k =
    elim (cases_lt r 1000000000000) [
      | inl less ↦ omega arith
      | inr more ↦ absurd (let m = mul-le 1000000000000 1000000000000 r r more more in omega (arith, m))
    ]

-- a root of a cell that is there
sized-root : (x : ℤ) → IsCell x → (b : Bool) → is_missing x ≡ b → IsCell (if b || int_lt x (pos 0) then MISSING else pos (near_root (4 * unsigned_abs x * MILLION)))
sized-root x h true e = inl refl
sized-root x h false e =
    let v = unsigned_abs x in
    let root : IsRoot (4 * v * MILLION) (isqrt (4 * v * MILLION)) = isqrt-is_root (4 * v * MILLION) in
    chosen-has IsCell (int_lt x (pos 0)) MISSING _ (inl refl) (inr (root-small v (isqrt (4 * v * MILLION)) (present-within x h (ap not e)) root.within))

pub sqrt-cell : (x : ℤ) → IsCell x → IsCell (sqrt x)
unfolding sqrt
sqrt-cell x h = sized-root x h (is_missing x) refl

pub sign-cell : (x : ℤ) → IsCell (sign x)
unfolding sign
sign-cell x =
    chosen-has IsCell (is_missing x) MISSING _ (inl refl) (
    chosen-has IsCell (int_lt x (pos 0)) (neg_ℤ (pos MILLION)) _ (inr (omega arith)) (
    chosen-has IsCell (int_lt (pos 0) x) (pos MILLION) (pos 0) (inr (omega arith)) zero-cell))

pub maximum-cell : (x y : ℤ) → IsCell x → IsCell y → IsCell (maximum x y)
unfolding maximum
maximum-cell x y h k = of_both-cell x y _ (chosen-has IsCell (int_lt y x) x y h k)

pub minimum-cell : (x y : ℤ) → IsCell x → IsCell y → IsCell (minimum x y)
unfolding minimum
minimum-cell x y h k = of_both-cell x y _ (chosen-has IsCell (int_lt y x) y x k h)
