use Rattle.std.proofs.Common.{rules, ◌∙◌, ◌≡◌, ◌<◌, ap, sym, max, fold, map, length, arith}
use Rattle.std.specs.List.{range_with_len}
use Rattle.std.proofs.lemmas.List.FromFn.{length-map-range_with_len}
use Rattle.pl_pipeline.specs.Cones.{cone_depths}
use Rattle.pl_terms.specs.Nodes.{graph_of}
use Rattle.pl_terms.proofs.Graphs.{graph-long}
use Rattle.pl_planner.specs.declared.cones.Cone.{Cone}
use Rattle.pl_planner.specs.Cones.{pairs_of}
use Rattle.pl_planner.specs.Columns.{held_at}
use Rattle.pl_planner.proofs.Coned.{cones-long}
use Rattle.pl_planner.proofs.Counting.{most_more}
use Rattle.pl_planner.proofs.Held.{listed-cone}
use Rattle.pl_planner.proofs.Live.{bound_is}
use Rattle.pl_planner.proofs.columns.bound_of.Goals as goal

pub held_at-requires-clause-within : goal.held_at-requires-clause-within
held_at-requires-clause-within c =
    let long : length c.args.cones.now ≡ length c.args.graph.now =
    sym (cones-long c.args.cones.now) ∙ ap (λ l. length l) c.requires.cones ∙ length-map-range_with_len (cone_depths (graph_of c.args.graph.now)) 0 (length c.args.graph.now) in
    let t : c.loop-k.k < length c.args.cones.now = search rules in
    omega (arith, long, t, c.requires.uses)

pub held_at-requires-clause-cone : goal.held_at-requires-clause-cone
held_at-requires-clause-cone c =
    ap pairs_of (c.deref.ensures.value ∙ ap (λ (x : Cone). x.terms.items) (sym c.index-cones-k.is))
    ∙ listed-cone (graph_of c.args.graph.now) (length c.args.graph.now) c.loop-k.k c.args.cones.now c.index-cones-k.result c.requires.cones c.loop-k-test.true c.index-cones-k.is

pub loop-k-preserved : goal.loop-k-preserved
loop-k-preserved c =
    let m : c.max-bound.result ≡ max c.loop-k.bound c.held_at.result = search rules in
    record {
      most = omega (arith, m, c.loop-k.invariant.most, c.held_at.ensures.value, most_more (held_at (graph_of c.args.graph.now) c.args.uses.now) c.loop-k.k);
      few = omega (arith, m, c.loop-k.invariant.few, c.held_at.ensures.few);
    }

pub returns-clause-value : goal.returns-clause-value
returns-clause-value c = λ outputs are.
    let t = c.loop-k-test.false in
    let a = c.loop-k.auto.k-end in
    let long : length c.args.cones.now ≡ length c.args.graph.now =
    sym (cones-long c.args.cones.now) ∙ ap (λ l. length l) c.requires.cones ∙ length-map-range_with_len (cone_depths (graph_of c.args.graph.now)) 0 (length c.args.graph.now) in
    let g = graph-long c.args.graph.now in
    let end : c.loop-k.k ≡ length (graph_of c.args.graph.now) = omega arith in
    c.loop-k.invariant.most ∙ ap (λ n. fold max 0 (map (held_at (graph_of c.args.graph.now) c.args.uses.now) (range_with_len 0 n))) end
    ∙ bound_is (graph_of c.args.graph.now) outputs c.args.uses.now c.len-shared.ensures.graph are
