use Rattle.pl_invariance.proofs.Ordered.{window-ranks-are-ranks}
use Rattle.pl_invariance.proofs.laws.window_ranks_are_ranks.Goals as goal

pub returns : goal.returns
returns c = window-ranks-are-ranks
