use Rattle.std.proofs.Common.{◌<◌, FitsSigned, w64, rules, arith, ◌∙◌}
use Rattle.std.proofs.lemmas.Int.{to_z-of_z}
use Rattle.pl_regression.proofs.Values.{root_none, root_some}
use Rattle.pl_regression.proofs.formulas.root.Goals as goal

pub returns-then-is_zero-clause-value : goal.returns-then-is_zero-clause-value
returns-then-is_zero-clause-value c = root_none _ _ (c.if-is_zero.ensures.0 (search rules))

pub returns-else-is_zero-clause-value : goal.returns-else-is_zero-clause-value
returns-else-is_zero-clause-value c =
    let fits : FitsSigned w64 c.root_of_quotient.result = search rules in
    let some : 0 < c.args.b.now = grind arith in
    to_z-of_z w64 _ fits ∙ root_some _ _ _ some c.root_of_quotient.ensures.value
