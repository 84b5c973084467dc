-- What the sums of pairs give is the formula.
use Rattle.std.proofs.Common.{◌≡◌, ◌∙◌, ℕ, ℤ, List, true, false, refl, ap, ap₂}
use Rattle.pl_pipeline.specs.Kind.{Kind}
use Rattle.pl_pipeline.specs.Kind.Kind.{Window}
use Rattle.pl_pipeline.specs.declared.WindowKind.TheVariants.{Correlation, Covariance, RegressionSlope, RegressionIntercept, RegressionError}
use Rattle.pl_pipeline.specs.Formula.{PairSums, pair_sums, formula}
use Rattle.pl_factors.specs.Kinds.{formula_of}
use Rattle.pl_factors.specs.Lanes.{AreGiven, AreValues, window_at}
use Rattle.pl_factors.specs.Regressions.{is_regression, regression_of, sums_at, regression_at}

pub regression_is : (k : Kind) (a b c : List ℤ) → is_regression k ≡ true → regression_of k (pair_sums b a) ≡ formula_of k a b c
unfolding regression_of formula
regression_is (Window Correlation) a b c h = refl
regression_is (Window Covariance) a b c h = refl
regression_is (Window RegressionSlope) a b c h = refl
regression_is (Window RegressionIntercept) a b c h = refl
regression_is (Window RegressionError) a b c h = refl
regression_is k a b c h = absurd (let bad : false ≡ true = h in cc)

pub given_values : (k : Kind) (size n : ℕ) (a b c out : List ℤ) → is_regression k ≡ true → AreGiven (regression_at k size a b) n out → AreValues k size a b c n out
unfolding regression_at sums_at
given_values k size n a b c out h m = record {
  each = λ j l. m.each j l ∙ regression_is k (window_at size j a) (window_at size j b) (window_at size j c) h;
  cell = m.cell;
}

-- the sums of two windows are those of a place
pub sums_here : (size j : ℕ) (a b x y : List ℤ) → x ≡ window_at size j b → y ≡ window_at size j a → pair_sums x y ≡ sums_at size a b j
unfolding sums_at
sums_here size j a b x y e f = ap₂ pair_sums e f

pub regression_here : (k : Kind) (size j : ℕ) (a b : List ℤ) (s : PairSums) (x : ℤ) → x ≡ regression_of k s → s ≡ sums_at size a b j → x ≡ regression_at k size a b j
unfolding regression_at
regression_here k size j a b s x e f = e ∙ ap (λ (t : PairSums). regression_of k t) f
