-- Covariances and products of two values, each in another unit.
use Rattle.std.proofs.Common.{◌≡◌, ℕ, ◌*◌, ℤ, pos, ◌*ℤ◌, List, length, map, sym, ap, ◌∙◌, arith}
use Rattle.pl_spec.specs.Rounding.{MILLION, Fraction, scaled, div_round, to_cell, quot}
use Rattle.pl_pipeline.specs.Formula.{pair_sums, joint_spread, covariance}
use Rattle.pl_invariance.specs.Ranked.{IsExact}
use Rattle.pl_invariance.specs.Units.{IsRatio, AreExact, IsUnrounded}
use Rattle.pl_invariance.proofs.Exact.{turned}
use Rattle.pl_invariance.proofs.Paired.{pairs-swapped}
use Rattle.pl_invariance.proofs.Powers.{By, product-by, written-by}
use Rattle.pl_invariance.proofs.Ring.{times-times}
use Rattle.pl_invariance.proofs.Scales.{window-scaled}
use Rattle.pl_invariance.proofs.Slopes.{joint-swapped, swapped-sums}
use Rattle.pl_invariance.proofs.Units as units

composed : (y z x : ℤ) (p q p' q' : ℕ) → By q p y z → By q' p' z x → By (q * q') (p * p') y x
composed y z x p q p' q' e f =
    sym (times-times y (pos q) (pos q')) ∙ ap (λ (t : ℤ). t *ℤ pos q') e ∙ turned z p q' ∙ ap (λ (t : ℤ). t *ℤ pos p) f
    ∙ turned x p' p ∙ times-times x (pos p) (pos p')

number-swapped : (xs ys : List ℤ) → (pair_sums ys xs).number ≡ (pair_sums xs ys).number
number-swapped xs ys = ap (λ (ps : List (ℤ × ℤ)). length ps) (pairs-swapped xs ys) ∙ (swapped-sums xs ys).number

-- the product of the ratios of both
module _ (a : Fraction) (one : IsRatio a) (b : Fraction) (two : IsRatio b) (c : Fraction) (both : IsRatio c)
    (is : (c.num ≡ a.num * b.num) × (c.den ≡ a.den * b.den)) where
  in-both : (y x : ℤ) → By (a.den * b.den) (a.num * b.num) y x → units.Times c both y x
  in-both y x e = written-by (a.den * b.den) (a.num * b.num) c.den c.num y x (sym is.1) (sym is.0) e

  pub joined-in : (xs ys : List ℤ) → AreExact b xs → AreExact a ys
      → (let s = pair_sums xs ys in IsUnrounded c (joint_spread s) (s.number * s.number * MILLION))
      → covariance (pair_sums (map (scaled b) xs) (map (scaled a) ys)) ≡ scaled c (covariance (pair_sums xs ys))
  unfolding covariance
  joined-in xs ys hx hy exact =
      let us = map (scaled b) xs in
      let vs = map (scaled a) ys in
      let s = pair_sums xs ys in
      let t = pair_sums us vs in
      let of_y = window-scaled a one us ys hy in
      let of_x = window-scaled b two ys xs hx in
      let number : t.number ≡ s.number = of_y.number ∙ number-swapped ys us ∙ of_x.number ∙ number-swapped xs ys in
      let second : By b.den b.num (joint_spread (pair_sums us ys)) (joint_spread s)
      = ap (λ z. z *ℤ pos b.den) (joint-swapped ys us) ∙ of_x.joint ∙ ap (λ z. z *ℤ pos b.num) (joint-swapped xs ys) in
      let joint = in-both (joint_spread t) (joint_spread s) (composed (joint_spread t) (joint_spread (pair_sums us ys)) (joint_spread s) a.num a.den b.num b.den of_y.joint second) in
      ap (λ (n : ℕ). quot (joint_spread t) (pos (n * n * MILLION))) number
      ∙ units.quot-scaled c both (joint_spread s) (joint_spread t) (s.number * s.number * MILLION) joint exact

  -- a product of present numbers
  pub product-in : (x y : ℤ) → IsExact a x → IsExact b y → (v : ℤ) → v ≡ to_cell (div_round (x *ℤ y) MILLION) → IsExact c v → (v *ℤ pos MILLION) ≡ (x *ℤ y)
      → to_cell (div_round (scaled a x *ℤ scaled b y) MILLION) ≡ scaled c v
  product-in x y hx hy v e hv whole =
      let times = in-both (scaled a x *ℤ scaled b y) (x *ℤ y) (product-by a.den a.num b.den b.num (scaled a x) x (scaled b y) y (units.exact-times a one x hx) (units.exact-times b two y hy)) in
      ap (λ t. to_cell (div_round t MILLION)) (units.whole c both (x *ℤ y) (scaled a x *ℤ scaled b y) v MILLION times hv whole)
      ∙ ap to_cell (units.whole-quotient (scaled c v) MILLION (omega arith))
      ∙ units.cell-scaled c both v (units.exact-present c both v hv)
