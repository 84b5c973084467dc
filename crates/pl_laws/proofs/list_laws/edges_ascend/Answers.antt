use Rattle.pl_pipeline.proofs.Edges.{edges-ascend}
use Rattle.pl_laws.proofs.list_laws.edges_ascend.Goals as goal

pub returns : goal.returns
returns c = edges-ascend
