use Rattle.std.proofs.Common.{◌≡◌, ◌++◌, true, slice_get, OnOk, subst, ap, sym, ◌∙◌, rules}
use Rattle.pl_terms.specs.Checked.{pipeline_of}
use Rattle.pl_terms.specs.Nodes.{graph_of, node_of}
use Rattle.pl_terms.proofs.Graphs.{graph-at}
use Rattle.pl_terms.specs.Uses as pipeline
use Rattle.pl_planner.specs.Plans as plans
use Rattle.pl_pipeline.specs.Cones.{cone_depths}
use Rattle.pl_planner.specs.Cones.{pairs_of}
use Rattle.pl_planner.specs.Text.{term_line}
use Rattle.pl_planner.proofs.Lines.{line-is}
use Rattle.pl_planner.proofs.text.put_term.Goals as goal

pub returns : goal.returns
returns c =
    let found : c.is_used.result ≡ true = search rules in
    let used : pipeline.is_used (pipeline_of c.args.checked.now) c.args.t.0 ≡ true = sym c.requires.same ∙ sym c.is_used.ensures ∙ found in
    let at = graph-at c.args.checked.now.graph c.args.t.0 c.node-node.result.now (ap (λ ns. slice_get ns c.args.t.0) (sym c.graph-2.ensures.value) ∙ c.node-node.ensures) in
    let line = line-is (pipeline_of c.args.checked.now) (plans.extra c.args.plan.now) c.args.t.0 (node_of c.node-node.result.now) used at in
    let n = node_of c.node-node.result.now in
    let given : term_line c.args.t.0 n c.extra.result c.uses.result (pairs_of c.deref.result.now)
    ≡ term_line c.args.t.0 n (plans.extra c.args.plan.now c.args.t.0) (pipeline.uses (pipeline_of c.args.checked.now) c.args.t.0) (cone_depths (pipeline_of c.args.checked.now).graph c.args.t.0)
    = ap (λ m. term_line c.args.t.0 n m c.uses.result (pairs_of c.deref.result.now)) c.extra.ensures.value
    ∙ ap (λ m. term_line c.args.t.0 n (plans.extra c.args.plan.now c.args.t.0) m (pairs_of c.deref.result.now)) c.uses.ensures
    ∙ ap (term_line c.args.t.0 n (plans.extra c.args.plan.now c.args.t.0) (pipeline.uses (pipeline_of c.args.checked.now) c.args.t.0)) (ap pairs_of c.deref.ensures.value ∙ c.in_ok-cone.ensures ∙ ap (λ ns. cone_depths (graph_of ns) c.args.t.0) c.graph.ensures.value) in
    subst (λ l. OnOk c.put_line.result (c.put_line.new.out.items ≡ c.args.out.now.items ++ l)) (given ∙ sym line) c.put_line.ensures
