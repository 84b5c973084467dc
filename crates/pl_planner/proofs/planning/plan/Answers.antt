use Rattle.std.proofs.Common.{rules, arith, ◌≤◌, ◌<◌, ◌≡◌, ◌≤ℤ◌, pos, ap, ◌∙◌, FitsSigned, w64, subst, sym, length, List}
use Rattle.std.proofs.lemmas.Int.{to_z-of_z}
use Rattle.pl_spec.specs.Limits.{most_extra_rows}
use Rattle.pl_terms.specs.Checked.{pipeline_of}
use Rattle.pl_terms.specs.Uses.{outputs}
use Rattle.pl_planner.specs.declared.uses.Use.{Use}
use Rattle.pl_planner.specs.Cones.{cones_of}
use Rattle.pl_pipeline.specs.Cones.{reads_of}
use Rattle.pl_planner.specs.Uses.{AreUsesBy}
use Rattle.pl_planner.specs.Rows.{most_extra}
use Rattle.pl_planner.specs.Plans.{IsDeepest}
use Rattle.pl_planner.proofs.Covers.{is-plan, limits, deepest, is-early, not-early}
use Rattle.pl_terms.specs.Nodes.{graph_of}
use Rattle.pl_terms.proofs.Graphs.{graph-long}
use Rattle.pl_planner.proofs.Held.{kept-read, most-listed}
use Rattle.pl_planner.proofs.Coned.{cones-listed}
use Rattle.pl_planner.proofs.planning.plan.Goals as goal

pub returns-then-rows-gt-MOST_ROWS-clause-fault : goal.returns-then-rows-gt-MOST_ROWS-clause-fault
returns-then-rows-gt-MOST_ROWS-clause-fault c =
    let e : c.most_extra-rows.result ≡ most_extra c.in-Ok-gather_rows.extras.items = c.most_extra-rows.ensures ∙ ap most_extra c.deref-2.ensures.value in
    let fit : FitsSigned w64 c.reach_of-reach.result = search rules in
    let early : pos 0 ≤ℤ c.reach_of-reach.result = not-early c.reach_of-reach.result fit c.if-reach-lt0.false in
    let reached = (rw c.deref.ensures.value at c.reach_of-reach.ensures) (outputs (pipeline_of c.args.checked.now)) in
    let l = rw (reached c.in-Ok.ensures.uses c.in-Ok.ensures.extras) at early in
    let deep : most_extra_rows < c.most_extra-rows.result = c.if-rows-gt-MOST_ROWS.true in
    let d = deepest c.args.sessions.now (pipeline_of c.args.checked.now) c.are_asked.ensures.checked c.args.from c.args.to c.requires.order c.in-Ok-gather_rows.extras.items c.in-Ok-gather_rows.ensures (omega arith) in
    (l, subst (IsDeepest c.args.sessions.now (pipeline_of c.args.checked.now) c.args.from c.args.to) (sym e) d, deep)

pub invariant_of-result : goal.invariant_of-result
invariant_of-result c =
    let e : c.most_extra-rows.result ≡ most_extra c.in-Ok-gather_rows.extras.items = c.most_extra-rows.ensures ∙ ap most_extra c.deref-2.ensures.value in
    let few : most_extra c.in-Ok-gather_rows.extras.items ≤ most_extra_rows = omega (arith, e, c.if-rows-gt-MOST_ROWS.false) in
    let fit : FitsSigned w64 c.reach_of-reach.result = search rules in
    let early : pos 0 ≤ℤ c.reach_of-reach.result = not-early c.reach_of-reach.result fit c.if-reach-lt0.false in
    let reached = (rw c.deref.ensures.value at c.reach_of-reach.ensures) (outputs (pipeline_of c.args.checked.now)) in
    let lent = c.deref-6.ensures.value in
    let slotted = rw lent at c.in-Ok-slot_terms.ensures.slotted in
    let long : length c.in-Ok-slot_terms.slots.items ≡ length c.hold.new.uses.items = c.in-Ok-slot_terms.ensures.size ∙ ap (λ (l : List Use). length l) lent in
    let listed = cones-listed c.graph.result.now c.args.checked.now.graph (cones_of c.in-Ok-gather_cones.cones.items) c.in-Ok-gather_cones.ensures c.graph.ensures.value in
    let are : AreUsesBy (reads_of (pipeline_of c.args.checked.now).graph) (pipeline_of c.args.checked.now).graph (outputs (pipeline_of c.args.checked.now)) c.hold.new.uses.items =
    kept-read c.graph-2.result.now c.args.checked.now.graph c.graph-2.ensures.value (outputs (pipeline_of c.args.checked.now)) c.in-Ok.uses.items c.hold.new.uses.items
    c.hold.ensures c.in-Ok.ensures.uses in
    let most = most-listed c.graph-3.result.now c.args.checked.now.graph c.graph-3.ensures.value (outputs (pipeline_of c.args.checked.now)) c.hold.new.uses.items c.deref-4.result.now c.bound_of-bound.result c.deref-4.ensures.value
    c.bound_of-bound.ensures.value are in
    rw (to_z-of_z w64 c.reach_of-reach.result fit)
    (limits c.args.sessions.now c.are_asked.ensures.days.ascend (pipeline_of c.args.checked.now) c.are_asked.ensures.checked c.hold.new.uses.items are c.in-Ok-slot_terms.slots.items slotted long c.args.from c.args.to c.requires.order c.requires.within
    c.in-Ok-gather_rows.extras.items c.in-Ok-gather_rows.ensures
    c.reach_of-reach.result c.bound_of-bound.result (reached c.in-Ok.ensures.uses c.in-Ok.ensures.extras) early most few (cones_of c.in-Ok-gather_cones.cones.items) listed c.are_asked.ensures.few c.bound_of-bound.ensures.few)

pub returns-clause-plan : goal.returns-clause-plan
returns-clause-plan c =
    let e : c.most_extra-rows.result ≡ most_extra c.in-Ok-gather_rows.extras.items = c.most_extra-rows.ensures ∙ ap most_extra c.deref-2.ensures.value in
    let few : most_extra c.in-Ok-gather_rows.extras.items ≤ most_extra_rows = omega (arith, e, c.if-rows-gt-MOST_ROWS.false) in
    let fit : FitsSigned w64 c.reach_of-reach.result = search rules in
    let early : pos 0 ≤ℤ c.reach_of-reach.result = not-early c.reach_of-reach.result fit c.if-reach-lt0.false in
    let reached = (rw c.deref.ensures.value at c.reach_of-reach.ensures) (outputs (pipeline_of c.args.checked.now)) in
    let lent = c.deref-6.ensures.value in
    let slotted = rw lent at c.in-Ok-slot_terms.ensures.slotted in
    let long : length c.in-Ok-slot_terms.slots.items ≡ length c.hold.new.uses.items = c.in-Ok-slot_terms.ensures.size ∙ ap (λ (l : List Use). length l) lent in
    let listed = cones-listed c.graph.result.now c.args.checked.now.graph (cones_of c.in-Ok-gather_cones.cones.items) c.in-Ok-gather_cones.ensures c.graph.ensures.value in
    let are : AreUsesBy (reads_of (pipeline_of c.args.checked.now).graph) (pipeline_of c.args.checked.now).graph (outputs (pipeline_of c.args.checked.now)) c.hold.new.uses.items =
    kept-read c.graph-2.result.now c.args.checked.now.graph c.graph-2.ensures.value (outputs (pipeline_of c.args.checked.now)) c.in-Ok.uses.items c.hold.new.uses.items
    c.hold.ensures c.in-Ok.ensures.uses in
    let most = most-listed c.graph-3.result.now c.args.checked.now.graph c.graph-3.ensures.value (outputs (pipeline_of c.args.checked.now)) c.hold.new.uses.items c.deref-4.result.now c.bound_of-bound.result c.deref-4.ensures.value
    c.bound_of-bound.ensures.value are in
    rw (to_z-of_z w64 c.reach_of-reach.result fit)
    (is-plan c.args.sessions.now c.are_asked.ensures.days.ascend (pipeline_of c.args.checked.now) c.are_asked.ensures.checked c.hold.new.uses.items are c.in-Ok-slot_terms.slots.items slotted long c.args.from c.args.to c.requires.order c.requires.within
    c.in-Ok-gather_rows.extras.items c.in-Ok-gather_rows.ensures
    c.reach_of-reach.result c.bound_of-bound.result (reached c.in-Ok.ensures.uses c.in-Ok.ensures.extras) early most few (cones_of c.in-Ok-gather_cones.cones.items) listed)

pub reach_of-reach-requires : goal.reach_of-reach-requires
reach_of-reach-requires c = rw c.deref.ensures.value (record {
  asked = c.are_asked.ensures;
  uses = record { outputs = outputs (pipeline_of c.args.checked.now); are = c.in-Ok.ensures.uses; have = c.in-Ok.ensures.extras };
  within = omega (arith, c.requires.order, c.requires.within);
})

pub bound_of-bound-requires-clause-uses : goal.bound_of-bound-requires-clause-uses
bound_of-bound-requires-clause-uses c =
    let are : AreUsesBy (reads_of (pipeline_of c.args.checked.now).graph) (pipeline_of c.args.checked.now).graph (outputs (pipeline_of c.args.checked.now)) c.hold.new.uses.items =
    kept-read c.graph-2.result.now c.args.checked.now.graph c.graph-2.ensures.value (outputs (pipeline_of c.args.checked.now)) c.in-Ok.uses.items c.hold.new.uses.items
    c.hold.ensures c.in-Ok.ensures.uses in
    let size : length c.hold.new.uses.items ≡ length (graph_of c.args.checked.now.graph) = are.size in
    ap (λ (l : List Use). length l) c.deref-4.ensures.value ∙ size ∙ graph-long c.args.checked.now.graph ∙ ap (λ ns. length ns) (sym c.graph-3.ensures.value)

pub slot_terms-requires : goal.slot_terms-requires
slot_terms-requires c =
    let long : length c.deref-6.result.now ≡ length c.hold.new.uses.items = ap (λ (l : List Use). length l) c.deref-6.ensures.value in
    let are : AreUsesBy (reads_of (pipeline_of c.args.checked.now).graph) (pipeline_of c.args.checked.now).graph (outputs (pipeline_of c.args.checked.now)) c.hold.new.uses.items =
    kept-read c.graph-2.result.now c.args.checked.now.graph c.graph-2.ensures.value (outputs (pipeline_of c.args.checked.now)) c.in-Ok.uses.items c.hold.new.uses.items
    c.hold.ensures c.in-Ok.ensures.uses in
    omega (arith, long, are.size, c.are_asked.ensures.few)

pub hold-requires-clause-size : goal.hold-requires-clause-size
hold-requires-clause-size c =
    let size : length c.in-Ok.uses.items ≡ length (graph_of c.args.checked.now.graph) = c.in-Ok.ensures.uses.size in
    size ∙ graph-long c.args.checked.now.graph ∙ ap (λ ns. length ns) (sym c.graph-2.ensures.value)

pub returns-then-reach-lt0-clause-fault : goal.returns-then-reach-lt0-clause-fault
returns-then-reach-lt0-clause-fault c =
    let fit : FitsSigned w64 c.reach_of-reach.result = search rules in
    let reached = (rw c.deref.ensures.value at c.reach_of-reach.ensures) (outputs (pipeline_of c.args.checked.now)) in
    rw (to_z-of_z w64 c.reach_of-reach.result fit) (reached c.in-Ok.ensures.uses c.in-Ok.ensures.extras, is-early c.reach_of-reach.result fit c.if-reach-lt0.true)
