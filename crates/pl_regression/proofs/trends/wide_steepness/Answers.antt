use Rattle.std.proofs.Common.{FitsSigned, w64, rules, refl}
use Rattle.std.proofs.lemmas.Int.{to_z-of_z}
use Rattle.pl_pipeline.specs.Formula.{steepness}
use Rattle.pl_regression.proofs.trends.wide_steepness.Goals as goal

pub returns-clause-value : goal.returns-clause-value
unfolding steepness
returns-clause-value c =
    let fits : FitsSigned w64 c.quot.result = search rules in
    rw (to_z-of_z w64 _ fits, c.quot.ensures.value, c.joint_spread.ensures.value, c.spread_x.ensures.value) refl
