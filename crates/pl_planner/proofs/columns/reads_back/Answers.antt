use Rattle.std.proofs.Common.{◌≤◌, ◌*◌, ◌+◌, arith, rules}
use Rattle.pl_spec.specs.Limits.{most_sessions, most_terms, most_window}
use Rattle.pl_terms.specs.Checked.{pipeline_of}
use Rattle.pl_terms.specs.Nodes.{node_of}
use Rattle.pl_planner.proofs.Pipelines.{pipeline-for}
use Rattle.pl_planner.proofs.Passes.{extra-few, bars-few}
use Rattle.pl_planner.proofs.columns.reads_back.Goals as goal

pub overflow_add-result : goal.overflow_add-result
overflow_add-result c =
    let ok = pipeline-for (pipeline_of c.args.checked.now) c.requires.asked.checked c.requires.uses.outputs c.args.uses.now c.requires.uses.are in
    let e = extra-few c.requires.asked.days.ascend c.args.session ok c.requires.asked.few c.args.uses.now c.requires.uses.are c.requires.uses.have c.args.t (node_of c.node_at-node.result.now).kind c.if-uses-t.true in
    let b = bars-few ok c.args.t (node_of c.node_at-node.result.now) c.node_at-node.ensures in
    let is = c.bars_back.ensures in
    let from = c.back_from.ensures in
    let few = c.requires.asked.days.few in
    let inside = c.requires.session in
    let small : c.back_from.result + c.bars_back.result ≤ most_sessions + most_window * (most_terms + 1) = omega arith in
    search rules

pub returns-then-uses-t-clause-few : goal.returns-then-uses-t-clause-few
returns-then-uses-t-clause-few c =
    let ok = pipeline-for (pipeline_of c.args.checked.now) c.requires.asked.checked c.requires.uses.outputs c.args.uses.now c.requires.uses.are in
    let e = extra-few c.requires.asked.days.ascend c.args.session ok c.requires.asked.few c.args.uses.now c.requires.uses.are c.requires.uses.have c.args.t (node_of c.node_at-node.result.now).kind c.if-uses-t.true in
    let b = bars-few ok c.args.t (node_of c.node_at-node.result.now) c.node_at-node.ensures in
    let is = c.bars_back.ensures in
    let from = c.back_from.ensures in
    omega arith
