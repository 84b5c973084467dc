use Rattle.pl_pipeline.proofs.Unfolds.{value_at-node}
use Rattle.pl_laws.proofs.laws.nodes_unfold.Goals as goal

pub returns : goal.returns
returns c w names g k n ok e h = value_at-node w names g ok k n e h
