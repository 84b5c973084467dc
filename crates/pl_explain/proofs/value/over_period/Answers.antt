use Rattle.pl_explain.proofs.Values.{one-within}
use Rattle.pl_explain.proofs.Worths.{period-stated}
use Rattle.pl_explain.proofs.value.over_period.Goals as goal

pub returns : goal.returns
returns c =
    let is = c.node_in-node.ensures in
    period-stated c.requires.kept c.node_in-node.result.now is c.args.frequency c.period_start-start.result (c.requires.kind _ is) c.period_start-start.ensures.exact c.input_at.result c.input_at.ensures c.input_stated.result c.input_stated.ensures

pub input_stated-requires-clause-input : goal.input_stated-requires-clause-input
input_stated-requires-clause-input c = one-within c.args.basis.now.checked.now c.requires.kept.at.on.ready.checked c.args.t.0 c.node_in-node.result.now c.node_in-node.ensures 0 c.input_at.result c.input_at.ensures
