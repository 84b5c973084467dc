-- What the sums of values at their places give is the formula.
use Rattle.std.proofs.Common.{◌≡◌, ◌∙◌, ℕ, ℤ, List, true, false, refl, ap₂}
use Rattle.pl_pipeline.specs.Kind.{Kind}
use Rattle.pl_pipeline.specs.Kind.Kind.{Window}
use Rattle.pl_pipeline.specs.declared.WindowKind.TheVariants.{WindowSlope, WindowResidual, WindowRSquared}
use Rattle.pl_pipeline.specs.Formula.{PairSums, trend_sums, formula}
use Rattle.pl_factors.specs.Kinds.{formula_of}
use Rattle.pl_factors.specs.Lanes.{AreGiven, AreValues, window_at}
use Rattle.pl_factors.specs.Trends.{is_trend, trend_of, trend_at}

pub trend_is : (k : Kind) (a b c : List ℤ) → is_trend k ≡ true → trend_of k (trend_sums a) a ≡ formula_of k a b c
unfolding trend_of formula
trend_is (Window WindowSlope) a b c h = refl
trend_is (Window WindowResidual) a b c h = refl
trend_is (Window WindowRSquared) a b c h = refl
trend_is k a b c h = absurd (let bad : false ≡ true = h in cc)

pub given_trends : (k : Kind) (size n : ℕ) (a b c out : List ℤ) → is_trend k ≡ true → AreGiven (trend_at k size a) n out → AreValues k size a b c n out
unfolding trend_at
given_trends k size n a b c out h m = record {
  each = λ j l. m.each j l ∙ trend_is k (window_at size j a) (window_at size j b) (window_at size j c) h;
  cell = m.cell;
}

-- the value of a window is that of a place
pub trend_here : (k : Kind) (size j : ℕ) (a w : List ℤ) (s : PairSums) (x : ℤ) → x ≡ trend_of k s w → s ≡ trend_sums (window_at size j a) → w ≡ window_at size j a
    → x ≡ trend_at k size a j
unfolding trend_at
trend_here k size j a w s x e f g = e ∙ ap₂ (λ (t : PairSums) l. trend_of k t l) f g
