-- Changes of a price over a window, which have no unit.
use Rattle.std.specs.Prelude.{◌≡◌, ◌<◌, ℤ, List, map}
use Rattle.pl_spec.specs.Rounding.{Fraction, scaled}
use Rattle.pl_pipeline.specs.declared.WindowKind.{WindowKind}
use Rattle.pl_pipeline.specs.declared.WindowKind.TheVariants.{Returns, PercentChange, RateOfChangePercentage}
use Rattle.pl_pipeline.specs.Formula.{oldest, newest, formula}
use Rattle.pl_invariance.specs.Exact.{Divides}

-- Where the ratio, which is above 0, rounds neither the oldest nor the newest cell, the formula gives the
-- same in both units.
abbrev pub HasNoUnit : WindowKind → Type 0
HasNoUnit kind = (r : Fraction) → 0 < r.num → (xs ys zs : List ℤ) → Divides r (oldest xs)
    → Divides r (newest xs)
    → formula kind (map (scaled r) xs) ys zs ≡ formula kind xs ys zs

pub record ChangesHaveNoUnit : Type 0 where
  pub returns : HasNoUnit Returns
  pub changes : HasNoUnit PercentChange
  pub rates : HasNoUnit RateOfChangePercentage
