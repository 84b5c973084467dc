use Rattle.std.proofs.Common.{◌≡◌, ◌∙◌, ◌<◌, ◌≤◌, ◌+◌, ◌-◌, ◌*◌, ◌^◌, ◌++◌, ◌∷◌, [], List, length, OnOk, ℕ, ap, sym, subst, arith, rules, append_assoc}
use Rattle.std.proofs.lemmas.Result.{on_ok_weaker}
use Rattle.pl_spec.specs.Limits.{most_terms}
use Rattle.pl_pipeline.specs.Cones.{depths_below, marks_of}
use Rattle.pl_terms.specs.Nodes.{graph_of, node_of}
use Rattle.pl_terms.proofs.Graphs.{graph-at, graph-long}
use Rattle.pl_planner.specs.Cones.{moving_marks, pairs_of}
use Rattle.pl_planner.specs.Steady.{AreSteady}
use Rattle.pl_planner.proofs.Coned.{last-none, last-some, last-few, room-next, marks-then, marks-are}
use Rattle.pl_planner.proofs.cones.+push_below.Goals as goal

pub overflow_add-depth : goal.overflow_add-depth
overflow_add-depth t c =
    let before = c.sessions_before.ensures.few in
    let first : c.in-Some.depth + c.args.count * 2 ^ 32 ≤ most_terms * 2 ^ 32 = last-few (graph_of c.args.graph.now) c.args.count (c.args.count - 1) (omega arith) (omega arith) c.args.depths.now c.in-Some.depth c.in-Some.is c.requires.room in
    let small : c.in-Some.depth + c.sessions_before.result < 2 ^ 64 = omega arith in
    search rules

pub push_below-requires-in-Some : goal.push_below-requires-in-Some
push_below-requires-in-Some t c =
    let less : c.args.count - 1 < t = search rules in
    let within : c.args.count - 1 ≤ length c.args.graph.now = (let l = c.requires.within in omega arith) in
    let few : c.args.count - 1 ≤ most_terms = (let l = c.requires.few in omega arith) in (
      less,
      (
        c.requires.graph,
        (
          within,
          (
            few,
            (
              c.requires.steady,
              room-next (graph_of c.args.graph.now) c.args.count (c.args.count - 1) (omega arith) (omega arith) c.args.depths.now c.in-Some.depth c.sessions_before.result c.mark_node.new.depths c.args.steady.now (node_of c.node-node.result.now).inputs
                  c.in-Some.is c.requires.room c.sessions_before.ensures.few c.mark_node.ensures,
            ),
          ),
        ),
      ),
    )

pub returns-in-None : goal.returns-in-None
returns-in-None t c = λ marks are.
    subst (λ l. OnOk c.push_below.result (pairs_of c.push_below.new.cone.items ≡ pairs_of c.args.cone.now.items ++ l))
    (sym (last-none (graph_of c.args.graph.now) c.args.count (c.args.count - 1) (omega arith) (omega arith) c.args.depths.now c.in-None.is marks are)) (c.push_below.ensures marks are)

pub returns-in_ok-push_below-in-Some : goal.returns-in_ok-push_below-in-Some
returns-in_ok-push_below-in-Some t c = λ marks are.
    let g = graph_of c.args.graph.now in
    let n = node_of c.node-node.result.now in
    let adds = moving_marks c.args.steady.now (c.in-Some.depth + c.sessions_before.result) n.inputs in
    let at = graph-at c.args.graph.now (c.args.count - 1) c.node-node.result.now c.node-node.ensures in
    let same : adds ≡ marks_of g (c.args.count - 1) c.in-Some.depth =
    marks-are g c.requires.graph c.args.steady.now (subst (λ m. AreSteady g m c.args.steady.now) (sym (graph-long c.args.graph.now)) c.requires.steady) (c.args.count - 1) n at (c.in-Some.depth + c.sessions_before.result) c.in-Some.depth (ap (λ x. c.in-Some.depth + x) c.sessions_before.ensures.value) in
    let own : pairs_of c.push_below-in-Some.new.cone.items ≡ pairs_of c.args.cone.now.items ++ depths_below g (c.args.count - 1) (marks ++ adds) =
    c.in_ok-push_below-in-Some.ensures (marks ++ adds) (marks-then c.args.depths.now c.mark_node.new.depths marks adds are c.mark_node.ensures) in
    let whole = last-some g c.args.count (c.args.count - 1) (omega arith) (omega arith) c.args.depths.now c.in-Some.depth c.in-Some.is marks are in
    let last : List (ℕ × ℕ) = (c.args.count - 1, c.in-Some.depth) ∷ [] in
    on_ok_weaker c.push_term.result (λ e. e ∙ ap (λ l. l ++ last) own
    ∙ append_assoc (pairs_of c.args.cone.now.items) (depths_below g (c.args.count - 1) (marks ++ adds)) last
    ∙ ap (λ ms. pairs_of c.args.cone.now.items ++ (depths_below g (c.args.count - 1) (marks ++ ms) ++ last)) same
    ∙ ap (λ l. pairs_of c.args.cone.now.items ++ l) (sym whole)) c.push_term.ensures
