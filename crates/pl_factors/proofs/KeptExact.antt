-- Values from kept sums: what is computed in 128 bits is exact.
use Rattle.std.proofs.Common.{◌≡◌, ◌≢◌, ◌≤◌, ◌^◌, ℤ, negsuc, unsigned_abs, w64, to_z, of_z, ap, arith, sym, ◌∙◌}
use Rattle.std.specs.Int.{w128}
use Rattle.std.proofs.lemmas.Int.{ints, to_z-of_z}
use Rattle.pl_spec.specs.Rounding.{IsCell}
use Rattle.pl_lanes.proofs.Bits.{cell-fits}
use Rattle.pl_factors.proofs.Exact.{exact}

-- x, which is y, is not the least number of 128 bits
pub not-least : (x y : ℤ) → x ≡ y → unsigned_abs y ≤ 10 ^ 38 → to_z w128 (of_z w128 x) ≢ negsuc 170141183460469231731687303715884105727
not-least x y e h least =
    let b : unsigned_abs x ≤ 10 ^ 38 = rw e h in
    let f : x ≡ negsuc 170141183460469231731687303715884105727 = sym (exact x b) ∙ least in
    omega (arith, ints, ap unsigned_abs f)

-- a cell, in 64 bits and back
pub same-cell : (x : ℤ) → IsCell x → to_z w64 (of_z w64 x) ≡ x
same-cell x h = to_z-of_z w64 x (cell-fits x h)

pub stays-cell : (x : ℤ) → IsCell x → IsCell (to_z w64 (of_z w64 x))
stays-cell x h = rw (same-cell x h) h
