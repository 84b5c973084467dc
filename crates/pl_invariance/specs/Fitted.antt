-- The line of a regression is that of least squares.
use Rattle.std.specs.Prelude.{◌≡◌, ◌≤◌, ℕ, ◌*◌, ℤ, pos, ◌+ℤ◌, ◌-ℤ◌, ◌*ℤ◌, List, length, sum_by}
use Rattle.pl_spec.specs.Rounding.{MILLION, quot}
use Rattle.pl_pipeline.specs.declared.WindowKind.TheVariants.{RegressionSlope, RegressionIntercept}
use Rattle.pl_pipeline.specs.Formula.{square, present_pairs, formula}

-- the squares of scale times what lies between y and (a + b x) / scale, added up
abbrev pub misses : (scale a b : ℤ) → List (ℤ × ℤ) → ℕ
misses scale a b ps = sum_by (λ p. square ((scale *ℤ p.1) -ℤ (a +ℤ (b *ℤ p.0)))) ps

-- The slope is rise / width, and the intercept start / width over the number n of pairs, each rounded once.
-- Without the rounding no line lies nearer to the pairs: that of any other, (a + b x) / m, has no smaller sum
-- of squares. Both sums stand here times m m and n n width width.
pub record IsOfLeastSquares (ps : List (ℤ × ℤ)) (slope intercept : ℤ) : Type 0 where
  pub rise : ℤ
  pub start : ℤ
  pub width : ℤ
  pub slope_is : slope ≡ quot (rise *ℤ pos MILLION) width
  pub intercept_is : intercept ≡ quot start (pos (length ps) *ℤ width)
  pub least : (m a b : ℤ) → let n = pos (length ps) in
      square m * misses (n *ℤ width) start (n *ℤ rise) ps ≤ square (n *ℤ width) * misses m a b ps

abbrev pub LinesAreOfLeastSquares : Type 0
LinesAreOfLeastSquares = (ys xs zs : List ℤ)
    → IsOfLeastSquares (present_pairs xs ys)
    (formula RegressionSlope ys xs zs) (formula RegressionIntercept ys xs zs)
