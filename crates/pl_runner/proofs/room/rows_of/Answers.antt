use Rattle.std.proofs.Common.{◌≡◌, length, ap, subst, List, Some, arith}
use Rattle.std.specs.Prelude.{slice_get}
use Rattle.pl_terms.specs.declared.node.Node.{Node}
use Rattle.pl_terms.specs.Checked.{pipeline_of}
use Rattle.pl_runner.proofs.Terms.{used-within}
use Rattle.pl_runner.proofs.Rooms.{window-of}
use Rattle.pl_runner.proofs.room.rows_of.Goals as goal
use Rattle.pl_terms.proofs.Graphs.{graph-long}

pub node-requires : goal.node-requires
node-requires c =
    let inside = used-within c.args.asked.now.world.sessions.now (pipeline_of c.args.asked.now.checked.now) c.args.asked.now.plan.now c.requires.asked.plan c.args.term.0 c.requires.used in
    omega (arith, inside, graph-long c.args.asked.now.checked.now.graph, ap length c.graph.ensures.value)

pub returns-clause-value : goal.returns-clause-value
returns-clause-value c =
    let there = subst (λ (ns : List Node). slice_get ns c.args.term.0 ≡ Some c.node.result.now) c.graph.ensures.value c.node.ensures in
    λ n e. (let w = window-of c.args.asked.now.checked.now.graph c.args.term.0 c.node.result.now n there e in omega (arith, w, c.low_at-low.ensures.value))
