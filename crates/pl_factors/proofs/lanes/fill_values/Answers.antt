use Rattle.std.proofs.Common.{rules, FitsSigned, w64, sym, ◌∙◌}
use Rattle.std.proofs.lemmas.Int.{to_z-of_z}
use Rattle.pl_terms.specs.Kinds.{kind_of}
use Rattle.pl_factors.proofs.Following.{coarse_means, fine_deviations, fine_means, percentiles}
use Rattle.pl_factors.proofs.Regressing.{given_values}
use Rattle.pl_factors.proofs.Trending.{given_trends}
use Rattle.pl_factors.proofs.lanes.fill_values.Goals as goal

pub returns-in-ExponentialWeightedMovingAverage-clause-values : goal.returns-in-ExponentialWeightedMovingAverage-clause-values
unfolding kind_of
returns-in-ExponentialWeightedMovingAverage-clause-values c =
    let fits : FitsSigned w64 c.in-ExponentialWeightedMovingAverage.decay = search rules in
    let means = rw (to_z-of_z w64 _ fits) at c.fill_faded.ensures in
    rw c.in-ExponentialWeightedMovingAverage.is (coarse_means _ _ _ _ _ _ _ means)

pub fill_anew-requires : goal.fill_anew-requires
fill_anew-requires c = c.requires

pub returns-then-not-is_empty-3-clause-values : goal.returns-then-not-is_empty-3-clause-values
returns-then-not-is_empty-3-clause-values c =
    given_values (kind_of c.args.kind.now) c.args.size _ c.args.a.now c.args.b.now c.args.c.now _ (sym c.is_regression.ensures ∙ c.if-is_regression.true) c.fill_regressions.ensures

pub returns-in-ExponentialWeightedMovingMean-clause-values : goal.returns-in-ExponentialWeightedMovingMean-clause-values
unfolding kind_of
returns-in-ExponentialWeightedMovingMean-clause-values c =
    let fits : FitsSigned w64 c.in-ExponentialWeightedMovingMean.decay = search rules in
    let means = rw (to_z-of_z w64 _ fits) at c.fill_faded-in-ExponentialWeightedMovingMean.ensures in
    rw c.in-ExponentialWeightedMovingMean.is (fine_means _ _ _ _ _ _ _ means)

pub returns-in-ExponentialWeightedMovingStdDev-clause-values : goal.returns-in-ExponentialWeightedMovingStdDev-clause-values
unfolding kind_of
returns-in-ExponentialWeightedMovingStdDev-clause-values c =
    let fits : FitsSigned w64 c.in-ExponentialWeightedMovingStdDev.decay = search rules in
    let given = rw (to_z-of_z w64 _ fits) at c.fill_deviations.ensures in
    rw c.in-ExponentialWeightedMovingStdDev.is (fine_deviations _ _ _ _ _ _ _ given)

pub returns-then-is_filled-2-clause-values : goal.returns-then-is_filled-2-clause-values
returns-then-is_filled-2-clause-values c =
    given_trends (kind_of c.args.kind.now) c.args.size _ c.args.a.now c.args.b.now c.args.c.now _ (sym c.is_trend.ensures ∙ c.if-is_trend.true) c.fill_trends.ensures

pub returns-in-WindowPercentile-clause-values : goal.returns-in-WindowPercentile-clause-values
unfolding kind_of
returns-in-WindowPercentile-clause-values c = rw c.in-WindowPercentile.is (percentiles _ _ _ _ _ _ _ c.fill_percentiles.ensures)
