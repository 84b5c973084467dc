use Rattle.pl_syntax.proofs.Printing.{spells_again}
use Rattle.pl_syntax.proofs.writer.scripts_are_spelled.Goals as goal

pub returns : goal.returns
returns c = spells_again
