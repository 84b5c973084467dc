-- The slope of prices on prices is the same in every unit.
use Rattle.std.proofs.Common.{◌≡◌, ◌*◌, ℤ, pos, ◌*ℤ◌, List, map, refl, sym, ◌∙◌, ap}
use Rattle.pl_spec.specs.Rounding.{MILLION, Fraction, scaled}
use Rattle.pl_pipeline.specs.Formula.{PairSums, sums_of_pairs, pair_sums, present_pairs, spread_x, spread_y, joint_spread, slope}
use Rattle.pl_invariance.specs.Units.{IsRatio, AreExact}
use Rattle.pl_invariance.proofs.Compared.{quot_same}
use Rattle.pl_invariance.proofs.Paired.{AreTurned, swap, pairs-swapped, sums-turned, joint-turned}
use Rattle.pl_invariance.proofs.Scales.{squared, ratio-squared, twice, AreScaled, window-scaled}
use Rattle.pl_invariance.proofs.Units.{Times, times-by}

spread-turned : (s t : PairSums) → AreTurned s t → spread_x t ≡ spread_y s
spread-turned s t h = rw (h.number, h.x, h.xx) refl

pub swapped-sums : (xs ys : List ℤ) → AreTurned (pair_sums xs ys) (sums_of_pairs (map swap (present_pairs xs ys)))
swapped-sums xs ys = sums-turned (present_pairs xs ys)

-- the sums of pairs that are swapped
pub joint-swapped : (xs ys : List ℤ) → joint_spread (pair_sums ys xs) ≡ joint_spread (pair_sums xs ys)
joint-swapped xs ys = ap (λ (ps : List (ℤ × ℤ)). joint_spread (sums_of_pairs ps)) (pairs-swapped xs ys) ∙ joint-turned _ _ (swapped-sums xs ys)

pub spread-swapped : (xs ys : List ℤ) → spread_x (pair_sums ys xs) ≡ spread_y (pair_sums xs ys)
spread-swapped xs ys = ap (λ (ps : List (ℤ × ℤ)). spread_x (sums_of_pairs ps)) (pairs-swapped xs ys) ∙ spread-turned _ _ (swapped-sums xs ys)

module _ (r : Fraction) (ratio : IsRatio r) (xs ys : List ℤ) (hx : AreExact r xs) (hy : AreExact r ys) where
  abbrev us : List ℤ
  us = map (scaled r) xs

  abbrev vs : List ℤ
  vs = map (scaled r) ys

  -- first y is in the other unit, and then x
  pub of_y : AreScaled r ratio (pair_sums us vs) (pair_sums us ys)
  of_y = window-scaled r ratio us ys hy

  pub of_x : AreScaled r ratio (pair_sums ys us) (pair_sums ys xs)
  of_x = window-scaled r ratio ys xs hx

  pub joint-times : Times (squared r) (ratio-squared r ratio) (joint_spread (pair_sums us vs)) (joint_spread (pair_sums xs ys))
  joint-times =
      twice r ratio (joint_spread (pair_sums us vs)) (joint_spread (pair_sums us ys)) (joint_spread (pair_sums xs ys)) of_y.joint
      (ap (λ z. z *ℤ pos r.den) (joint-swapped ys us) ∙ of_x.joint ∙ ap (λ z. z *ℤ pos r.num) (joint-swapped xs ys))

  pub spread-times : Times (squared r) (ratio-squared r ratio) (spread_x (pair_sums us vs)) (spread_x (pair_sums xs ys))
  spread-times =
      ap (λ z. z *ℤ pos (r.den * r.den)) (of_y.spread ∙ spread-swapped ys us)
      ∙ of_x.other
      ∙ ap (λ z. z *ℤ pos (r.num * r.num)) (sym (spread-swapped ys xs))

  pub slope-same : slope (pair_sums us vs) ≡ slope (pair_sums xs ys)
  unfolding slope
  slope-same =
      quot_same (joint_spread (pair_sums xs ys) *ℤ pos MILLION) (joint_spread (pair_sums us vs) *ℤ pos MILLION) (spread_x (pair_sums xs ys)) (spread_x (pair_sums us vs))
      (r.num * r.num) (r.den * r.den) (ratio-squared r ratio).0 (ratio-squared r ratio).1
      (times-by (squared r) (ratio-squared r ratio) (joint_spread (pair_sums us vs)) (joint_spread (pair_sums xs ys)) (pos MILLION) joint-times) spread-times
