use Rattle.std.proofs.Common.{◌∙◌, ◌≤◌, ◌+◌, ◌-◌, ◌*◌, ◌^◌, ◌++◌, [], cond, replicate, None, ap, sym, subst, arith}
use Rattle.pl_spec.specs.Limits.{most_terms}
use Rattle.pl_pipeline.specs.Cones.{depths_below, is_windowed}
use Rattle.pl_terms.specs.Nodes.{graph_of, node_of}
use Rattle.pl_terms.proofs.Graphs.{graph-at, graph-long}
use Rattle.pl_planner.specs.Cones.{moving_marks, pairs_of}
use Rattle.pl_planner.specs.Steady.{AreSteady}
use Rattle.pl_planner.proofs.Coned.{room-first, marks-begin, marks-then, firsts-are, pairs-none}
use Rattle.pl_planner.proofs.cones.cone_of.Goals as goal

pub push_below-requires-clause-room : goal.push_below-requires-clause-room
push_below-requires-clause-room c =
    let few = c.mark_window.ensures.few in
    let within = c.requires.within in
    let most = c.len-shared.ensures.few in
    let long = c.len-shared.ensures.value in
    let fits : (node_of c.node.result.now).window - 1 + c.args.t.0 * 2 ^ 32 ≤ most_terms * 2 ^ 32 = omega arith in
    room-first c.args.t.0 ((node_of c.node.result.now).window - 1) c.args.steady.now (node_of c.node.result.now).inputs fits c.mark_window.new.depths (is_windowed (node_of c.node.result.now).kind) c.mark_window.ensures.adds

pub returns : goal.returns
returns c =
    let g = graph_of c.args.graph.now in
    let n = node_of c.node.result.now in
    let t = c.args.t.0 in
    let adds = cond (is_windowed n.kind) (moving_marks c.args.steady.now (n.window - 1) n.inputs) [] in
    let same = firsts-are g c.len-shared.ensures.graph c.args.steady.now (subst (λ m. AreSteady g m c.args.steady.now) (sym (graph-long c.args.graph.now)) c.requires.steady) t n (graph-at c.args.graph.now t c.node.result.now c.node.ensures) in
    let own = c.in_ok-push_below.ensures adds (marks-then (replicate most_terms None) c.mark_window.new.depths [] adds marks-begin c.mark_window.ensures.adds) in
    own ∙ ap (λ l. pairs_of l ++ depths_below g t adds) c.new-terms.ensures.items ∙ ap (λ l. l ++ depths_below g t adds) pairs-none ∙ ap (depths_below g t) same
