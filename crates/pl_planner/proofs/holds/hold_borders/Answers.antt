use Rattle.std.proofs.Common.{◌≡◌, ◌∙◌, ap, sym, subst, length, arith}
use Rattle.std.proofs.lemmas.List.FromFn.{length-map-range_with_len}
use Rattle.pl_pipeline.specs.Cones.{cone_depths}
use Rattle.pl_terms.specs.Nodes.{graph_of}
use Rattle.pl_terms.proofs.Graphs.{graph-long}
use Rattle.pl_planner.specs.declared.cones.Cone.{Cone}
use Rattle.pl_planner.specs.Cones.{pairs_of}
use Rattle.pl_planner.specs.Steady.{AreSteady}
use Rattle.pl_planner.proofs.Coned.{cones-long}
use Rattle.pl_planner.proofs.Held.{held-step, held-ended, listed-cone}
use Rattle.pl_planner.proofs.holds.hold_borders.Goals as goal

pub loop-k-preserved : goal.loop-k-preserved
loop-k-preserved c =
    let g = graph_of c.args.graph.now in
    let steady = subst (λ m. AreSteady g m c.steady_terms-steady.result) (sym (graph-long c.args.graph.now)) c.steady_terms-steady.ensures in
    let own : pairs_of c.deref.result.now ≡ cone_depths g c.loop-k.k = ap pairs_of (c.deref.ensures.value ∙ ap (λ (x : Cone). x.terms.items) (sym c.index-cones-k.is))
    ∙ listed-cone g (length c.args.graph.now) c.loop-k.k c.args.cones.now c.index-cones-k.result c.requires.cones c.loop-k-test.true c.index-cones-k.is in
    held-step g c.len-shared.ensures.graph c.steady_terms-steady.result steady c.args.uses.now c.loop-k.k c.loop-k.uses c.hold_user.new.uses c.deref.result.now c.loop-k.invariant own c.hold_user.ensures

pub returns : goal.returns
returns c = λ outputs are.
    let g = graph_of c.args.graph.now in
    let size = c.requires.size in
    let long : length c.args.cones.now ≡ length c.args.graph.now =
    sym (cones-long c.args.cones.now) ∙ ap (λ l. length l) c.requires.cones ∙ length-map-range_with_len (cone_depths g) 0 (length c.args.graph.now) in
    held-ended g c.len-shared.ensures.graph c.args.uses.now c.loop-k.uses c.loop-k.k (let f = c.loop-k-test.false in omega arith) c.loop-k.invariant outputs are
