use Rattle.std.proofs.Common.{FitsSigned, w64, rules, refl}
use Rattle.std.proofs.lemmas.Int.{to_z-of_z}
use Rattle.pl_pipeline.specs.Formula.{slope}
use Rattle.pl_regression.proofs.formulas.wide_slope.Goals as goal

pub returns-clause-value : goal.returns-clause-value
unfolding slope
returns-clause-value c =
    let fits : FitsSigned w64 c.quot.result = search rules in
    let p = c.new.ensures in
    rw (to_z-of_z w64 _ fits, c.quot.ensures.value, c.times-rise.ensures, c.joint_spread.ensures.value, c.spread_x.ensures.value, p) refl
