-- Quotients of prices by numbers of either sign, in another unit.
use Rattle.std.proofs.Common.{◌≡◌, suc, ℤ, pos, negsuc, neg_ℤ}
use Rattle.pl_spec.specs.Rounding.{Fraction, scaled, quot}
use Rattle.pl_invariance.specs.Pipelines.{IsQuotientExact}
use Rattle.pl_invariance.specs.Units.{IsRatio}
use Rattle.pl_invariance.proofs.Units as units

module _ (r : Fraction) (ratio : IsRatio r) where
  pub quotient-scaled : (n n' t : ℤ) → units.Times r ratio n' n → IsQuotientExact r n t → quot n' t ≡ scaled r (quot n t)
  unfolding quot
  quotient-scaled n n' (pos m) e h = units.quot-scaled r ratio n n' m e h
  quotient-scaled n n' (negsuc m) e h = units.quot-scaled r ratio (neg_ℤ n) (neg_ℤ n') (suc m) (units.times-neg r ratio n' n e) h
