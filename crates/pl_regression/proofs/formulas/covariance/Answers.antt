use Rattle.std.proofs.Common.{◌≡◌, ◌*◌, ◌≤◌, pos, FitsSigned, w64, to_z, rules, arith, refl}
use Rattle.std.specs.Int.{w128}
use Rattle.std.proofs.lemmas.Int.{to_z-of_z, to_z_pos}
use Rattle.std.proofs.lemmas.Nat.{mul-le}
use Rattle.pl_spec.specs.Limits.{most_window}
use Rattle.pl_pipeline.specs.Formula.{covariance}
use Rattle.pl_regression.proofs.formulas.covariance.Goals as goal

pub returns-clause-value : goal.returns-clause-value
unfolding covariance
returns-clause-value c =
    let fits : FitsSigned w64 c.quot.result = search rules in
    let n = c.number-number.result in
    let few : n ≤ most_window = omega (arith, c.number-number.ensures, c.requires.number) in
    let square : n * n ≤ most_window * most_window = mul-le n n most_window most_window few few in
    let divisor : to_z w128 (n * n * 1000000) ≡ pos (n * n * 1000000) = to_z_pos w128 (n * n * 1000000) (omega (arith, square)) in
    rw (to_z-of_z w64 _ fits, c.quot.ensures.value, c.joint_spread.ensures.value, c.new-divisor.ensures, divisor, c.number-number.ensures) refl
