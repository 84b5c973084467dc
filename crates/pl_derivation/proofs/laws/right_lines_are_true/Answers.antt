use Rattle.pl_derivation.proofs.Truths.{sound}
use Rattle.pl_derivation.proofs.laws.right_lines_are_true.Goals as goal

pub returns : goal.returns
returns c w p known ok lines e i l at = sound w p known ok lines e i l at
