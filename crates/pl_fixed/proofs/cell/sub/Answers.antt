use Rattle.std.proofs.Common.{arith, rules, FitsSigned, w64}
use Rattle.std.proofs.lemmas.Int.{to_z-of_z}
use Rattle.pl_spec.specs.Rounding.{sub}
use Rattle.pl_fixed.proofs.cell.sub.Goals as goal

pub returns-else-b-eq-MISSING-clause-value : goal.returns-else-b-eq-MISSING-clause-value
unfolding sub
returns-else-b-eq-MISSING-clause-value c = grind (arith, to_z-of_z)

pub returns-else-b-eq-MISSING-clause-cell : goal.returns-else-b-eq-MISSING-clause-cell
returns-else-b-eq-MISSING-clause-cell c =
    let fr : FitsSigned w64 c.to_cell.result = search rules in
    rw (to_z-of_z w64 _ fr) c.to_cell.ensures.cell
