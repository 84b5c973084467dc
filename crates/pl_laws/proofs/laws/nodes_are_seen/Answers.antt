use Rattle.pl_pipeline.proofs.Unfolds.{seen_at-node}
use Rattle.pl_laws.proofs.laws.nodes_are_seen.Goals as goal

pub returns : goal.returns
returns c w names g k n ok e = seen_at-node w names g ok k n e
