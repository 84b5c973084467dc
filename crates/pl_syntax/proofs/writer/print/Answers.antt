use Rattle.std.proofs.Common.{sym, subst}
use Rattle.pl_syntax.specs.Scripts.{parsed}
use Rattle.pl_syntax.specs.Spells.{SpellsAgain}
use Rattle.pl_syntax.proofs.Printing.{printed_again}
use Rattle.pl_syntax.proofs.writer.print.Goals as goal

pub returns-clause-again : goal.returns-clause-again
returns-clause-again c = subst (λ z. SpellsAgain z (parsed c.args.script.now)) (sym c.in_ok-text.ensures) (printed_again c.args.script.now)
