-- Cells that are present lie within the limit.
use Rattle.std.proofs.Common.{◌≡◌, ◌≤◌, true, nat_le, ℤ, refl, sym, ◌∙◌, ap, arith, inl, inr, ◌≢◌, false}
use Rattle.std.specs.Int.RustNames.{unsigned_abs}
use Rattle.std.proofs.lemmas.Bool.Decides.{nat_tests}
use Rattle.pl_spec.specs.Rounding.{MISSING, LIMIT, IsCell, is_present, to_cell, is_missing}
use Rattle.std.proofs.lemmas.Int.{ints}

pub to_cell-within : (v : ℤ) → unsigned_abs v ≤ LIMIT → to_cell v ≡ v
unfolding to_cell
to_cell-within v h = let t : nat_le (unsigned_abs v) LIMIT ≡ true = grind (arith, nat_tests) in rw t refl

pub present-within : (x : ℤ) → IsCell x → is_present x ≡ true → unsigned_abs x ≤ LIMIT
present-within x (inl e) t = absurd (let no : is_present MISSING ≡ true = ap is_present (sym e) ∙ t in cc)
present-within x (inr h) t = h

pub missing-far : (x : ℤ) → unsigned_abs x ≤ LIMIT → is_missing x ≡ false
missing-far x h = let apart : x ≢ MISSING = (λ e. let bad : unsigned_abs x ≡ 9223372036854775808 = ap unsigned_abs e in omega (arith, ints)) in grind (arith, ints)
