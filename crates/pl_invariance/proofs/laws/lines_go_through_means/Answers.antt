use Rattle.pl_invariance.proofs.Lines.{lines-go-through-means}
use Rattle.pl_invariance.proofs.laws.lines_go_through_means.Goals as goal

pub returns : goal.returns
returns c = lines-go-through-means
