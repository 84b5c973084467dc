use Rattle.std.proofs.Common.{subst, ◌+◌, ◌≤◌, ◌∙◌, sym, ap, length, ℕ, arith}
use Rattle.pl_terms.specs.Checked.{pipeline_of}
use Rattle.pl_terms.proofs.Graphs.{graph-long}
use Rattle.pl_workspace.specs.Slots.{Slots, Free, IsLive, slot_at, with_slot}
use Rattle.pl_planner.specs.Plans.{slot_of}
use Rattle.pl_planner.proofs.Pipelines.{output-used}
use Rattle.pl_runner.specs.Releases.{HoldOnly}
use Rattle.pl_runner.proofs.Released.{live-inside, released, passed, all-released, slots-long}
use Rattle.pl_runner.proofs.release.release_outputs.Goals as goal
use Rattle.pl_runner.proofs.release.release_outputs.Goals.{then-is_output, else-is_output}

pub slot-requires : goal.slot-requires
slot-requires c =
    output-used c.args.asked.now.world.sessions.now (pipeline_of c.args.asked.now.checked.now) c.args.asked.now.plan.now c.requires.asked.checked c.requires.asked.plan c.loop-t.t (sym c.is_output.ensures ∙ c.if-is_output.true)

pub release-requires : goal.release-requires
release-requires c =
    let own = sym c.is_output.ensures ∙ c.if-is_output.true in
    subst (λ (n : ℕ). IsLive (slot_at c.loop-t.workspace n)) (sym c.slot.ensures.value) (c.loop-t.invariant.held.live c.loop-t.t (omega arith) own)

pub loop-t-preserved : goal.loop-t-preserved
loop-t-preserved c =
    let p = pipeline_of c.args.asked.now.checked.now in let plan = c.args.asked.now.plan.now in
    elim c.if-is_output.branch [
      | then-is_output b ↦
          let own = sym c.is_output.ensures ∙ b.if-is_output.true in
          let inside = live-inside c.loop-t.workspace (slot_of plan c.loop-t.t) (c.loop-t.invariant.held.live c.loop-t.t (omega arith) own) in
          let is = b.workspace-is ∙ b.release.ensures ∙ ap (λ (n : ℕ). with_slot c.loop-t.workspace n Free) b.slot.ensures.value in
          record {
            held = subst (HoldOnly p plan (c.loop-t.t + 1)) (sym is) (released c.args.asked.now.world.sessions.now p plan c.requires.asked.checked c.requires.asked.plan c.loop-t.t c.loop-t.workspace c.loop-t.invariant.held own inside);
            slots = ap (λ (w : Slots). length w.slots) is ∙ slots-long c.loop-t.workspace (slot_of plan c.loop-t.t) ∙ c.loop-t.invariant.slots;
            len = ap (λ (w : Slots). w.len) is ∙ c.loop-t.invariant.len;
          }
      | else-is_output b ↦
          rw b.workspace-is record {
            held = passed p plan c.loop-t.t c.loop-t.workspace c.loop-t.invariant.held (sym c.is_output.ensures ∙ b.if-is_output.false);
            slots = c.loop-t.invariant.slots;
            len = c.loop-t.invariant.len;
          }
    ]

pub returns-clause-free : goal.returns-clause-free
returns-clause-free c =
    let done : length (pipeline_of c.args.asked.now.checked.now).graph ≤ c.loop-t.t = omega (arith, c.len-t-end.ensures.value, ap length c.graph.ensures.value, graph-long c.args.asked.now.checked.now.graph) in
    all-released c.args.asked.now.world.sessions.now (pipeline_of c.args.asked.now.checked.now) c.args.asked.now.plan.now c.loop-t.t c.loop-t.workspace c.requires.asked.checked c.requires.asked.plan done c.loop-t.invariant.held
