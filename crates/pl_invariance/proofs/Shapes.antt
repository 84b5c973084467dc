-- Shapes of prices have no unit, and roots have that of their squares.
use Rattle.pl_invariance.specs.Shapes.{ShapesHaveNoUnit, RootsHaveUnits}
use Rattle.pl_pipeline.specs.Formula.{formula}
use Rattle.pl_invariance.proofs.Fallen.{drawdown-same}
use Rattle.pl_invariance.proofs.Powers.{skewness-same, kurtosis-same}
use Rattle.pl_invariance.proofs.Roots.{faded-in, error-in, error-same}
use Rattle.pl_invariance.proofs.Scales.{window-scaled}

pub shapes-have-no-unit : ShapesHaveNoUnit
unfolding formula
shapes-have-no-unit = record {
  drawdown = λ r xs ys zs ratio h. drawdown-same r ratio xs h;
  skewness = λ r xs ys zs ratio h. skewness-same r ratio xs h;
  kurtosis = λ r xs ys zs ratio h. kurtosis-same r ratio xs h;
  error = λ r ys xs zs ratio hy hx. error-same r ratio xs ys hx hy;
}

pub roots-have-units : RootsHaveUnits
unfolding formula
roots-have-units = record {
  faded_deviation = λ r decay xs ys zs ratio h exact. faded-in r ratio decay xs h exact;
  error = λ r ys xs zs ratio h exact. error-in r ratio _ _ (window-scaled r ratio xs ys h) exact;
}
