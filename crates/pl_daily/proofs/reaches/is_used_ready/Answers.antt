use Rattle.pl_terms.specs.Checked.{pipeline_of}
use Rattle.pl_terms.specs.Nodes.{node_of}
use Rattle.pl_planner.proofs.Pipelines.{is-pipeline}
use Rattle.pl_daily.proofs.reaches.is_used_ready.Goals as goal

pub is_node_ready-requires : goal.is_node_ready-requires
is_node_ready-requires c = ((is-pipeline (pipeline_of c.args.checked.now) c.requires.checked).windows c.args.k (node_of c.node_at.result.now) c.node_at.ensures).0
