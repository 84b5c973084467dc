use Rattle.pl_pipeline.proofs.Unfolds.{value_at-node}
use Rattle.pl_terms.specs.Checked.{pipeline_of}
use Rattle.pl_terms.proofs.Steady.{checked-steady}
use Rattle.pl_world.proofs.laws.values_follow_nodes.Goals as goal

pub returns : goal.returns
returns c w t n e a d =
    let p = pipeline_of c.args.checked.now in
    value_at-node w p.names p.graph c.is_checked.ensures.graph t n e (checked-steady p c.is_checked.ensures t n e) a d
