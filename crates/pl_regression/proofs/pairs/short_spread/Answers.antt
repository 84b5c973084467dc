use Rattle.std.proofs.Common.{◌≡◌, ◌<◌, ◌^◌, ℤ, pos, ◌*ℤ◌, ◌-ℤ◌, unsigned_abs, FitsSigned, to_z, arith, refl}
use Rattle.std.specs.Int.{w128}
use Rattle.std.proofs.lemmas.Int.{ints, to_z-of_z, to_z_pos, fits_signed_from_abs}
use Rattle.pl_regression.proofs.Bounds.{product_bits}
use Rattle.pl_regression.proofs.pairs.short_spread.Goals as goal

apart_bits : (a b : ℤ) → unsigned_abs a < 2 ^ 124 → unsigned_abs b < 2 ^ 124 → unsigned_abs (a -ℤ b) < 2 ^ 125
apart_bits a b e f = omega (arith, ints, e, f)

pub overflow_sub-result : goal.overflow_sub-result
overflow_sub-result c =
    let n : to_z w128 c.args.number ≡ pos c.args.number = to_z_pos w128 c.args.number (omega (arith, c.requires.number)) in
    let few : unsigned_abs (pos c.args.number) < 2 ^ 11 = omega (arith, c.requires.number) in
    let p = product_bits (pos c.args.number) c.args.products (pos c.args.number *ℤ c.args.products) 11 113 refl few c.requires.products in
    let q = product_bits c.args.x c.args.y (c.args.x *ℤ c.args.y) 62 62 refl c.requires.x c.requires.y in
    let fp : FitsSigned w128 (pos c.args.number *ℤ c.args.products) = fits_signed_from_abs w128 _ (omega (arith, p)) in
    let fq : FitsSigned w128 (c.args.x *ℤ c.args.y) = fits_signed_from_abs w128 _ (omega (arith, q)) in
    let small : unsigned_abs ((pos c.args.number *ℤ c.args.products) -ℤ (c.args.x *ℤ c.args.y)) < 2 ^ 125 = apart_bits (pos c.args.number *ℤ c.args.products) (c.args.x *ℤ c.args.y) p q in
    let fits : FitsSigned w128 ((pos c.args.number *ℤ c.args.products) -ℤ (c.args.x *ℤ c.args.y)) = fits_signed_from_abs w128 _ (omega (arith, small)) in
    rw (n, to_z-of_z w128 c.args.products c.ranges.products, to_z-of_z w128 c.args.x c.ranges.x, to_z-of_z w128 c.args.y c.ranges.y, to_z-of_z w128 _ fp, to_z-of_z w128 _ fq) fits

pub returns-clause-value : goal.returns-clause-value
returns-clause-value c =
    let n : to_z w128 c.args.number ≡ pos c.args.number = to_z_pos w128 c.args.number (omega (arith, c.requires.number)) in
    let few : unsigned_abs (pos c.args.number) < 2 ^ 11 = omega (arith, c.requires.number) in
    let p = product_bits (pos c.args.number) c.args.products (pos c.args.number *ℤ c.args.products) 11 113 refl few c.requires.products in
    let q = product_bits c.args.x c.args.y (c.args.x *ℤ c.args.y) 62 62 refl c.requires.x c.requires.y in
    let fp : FitsSigned w128 (pos c.args.number *ℤ c.args.products) = fits_signed_from_abs w128 _ (omega (arith, p)) in
    let fq : FitsSigned w128 (c.args.x *ℤ c.args.y) = fits_signed_from_abs w128 _ (omega (arith, q)) in
    let small : unsigned_abs ((pos c.args.number *ℤ c.args.products) -ℤ (c.args.x *ℤ c.args.y)) < 2 ^ 125 = apart_bits (pos c.args.number *ℤ c.args.products) (c.args.x *ℤ c.args.y) p q in
    let fits : FitsSigned w128 ((pos c.args.number *ℤ c.args.products) -ℤ (c.args.x *ℤ c.args.y)) = fits_signed_from_abs w128 _ (omega (arith, small)) in
    rw (n, to_z-of_z w128 c.args.products c.ranges.products, to_z-of_z w128 c.args.x c.ranges.x, to_z-of_z w128 c.args.y c.ranges.y, to_z-of_z w128 _ fp, to_z-of_z w128 _ fq) (to_z-of_z w128 _ fits)

pub returns-clause-small : goal.returns-clause-small
returns-clause-small c =
    let n : to_z w128 c.args.number ≡ pos c.args.number = to_z_pos w128 c.args.number (omega (arith, c.requires.number)) in
    let few : unsigned_abs (pos c.args.number) < 2 ^ 11 = omega (arith, c.requires.number) in
    let p = product_bits (pos c.args.number) c.args.products (pos c.args.number *ℤ c.args.products) 11 113 refl few c.requires.products in
    let q = product_bits c.args.x c.args.y (c.args.x *ℤ c.args.y) 62 62 refl c.requires.x c.requires.y in
    let fp : FitsSigned w128 (pos c.args.number *ℤ c.args.products) = fits_signed_from_abs w128 _ (omega (arith, p)) in
    let fq : FitsSigned w128 (c.args.x *ℤ c.args.y) = fits_signed_from_abs w128 _ (omega (arith, q)) in
    let small : unsigned_abs ((pos c.args.number *ℤ c.args.products) -ℤ (c.args.x *ℤ c.args.y)) < 2 ^ 125 = apart_bits (pos c.args.number *ℤ c.args.products) (c.args.x *ℤ c.args.y) p q in
    let fits : FitsSigned w128 ((pos c.args.number *ℤ c.args.products) -ℤ (c.args.x *ℤ c.args.y)) = fits_signed_from_abs w128 _ (omega (arith, small)) in
    rw (n, to_z-of_z w128 c.args.products c.ranges.products, to_z-of_z w128 c.args.x c.ranges.x, to_z-of_z w128 c.args.y c.ranges.y, to_z-of_z w128 _ fp, to_z-of_z w128 _ fq, to_z-of_z w128 _ fits) small
