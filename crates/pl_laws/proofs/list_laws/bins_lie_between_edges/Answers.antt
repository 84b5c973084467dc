use Rattle.pl_pipeline.proofs.Edges.{bins-between}
use Rattle.pl_laws.proofs.list_laws.bins_lie_between_edges.Goals as goal

pub returns : goal.returns
returns c = bins-between
