use Rattle.pl_invariance.proofs.Fitted.{lines-are-of-least-squares}
use Rattle.pl_invariance.proofs.laws.lines_are_of_least_squares.Goals as goal

pub returns : goal.returns
returns c = lines-are-of-least-squares
