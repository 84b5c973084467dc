use Rattle.std.proofs.Common.{rules, ◌≡◌, ◌<◌, ◌∙◌, max, length, sym, ap, subst, ℕ, arith}
use Rattle.pl_terms.specs.Checked.{pipeline_of}
use Rattle.pl_terms.proofs.Graphs.{graph-long}
use Rattle.pl_runner.specs.Room.{IsMost}
use Rattle.pl_runner.proofs.Rooms.{most-none, most-same, most-more}
use Rattle.pl_runner.proofs.room.most_rows.Goals as goal
use Rattle.pl_runner.proofs.room.most_rows.Goals.{then-is_used, else-is_used}

pub loop-t-init : goal.loop-t-init
loop-t-init c = record { most = most-none (pipeline_of c.args.asked.now.checked.now) c.args.asked.now.plan.now c.args.chunk; few = omega arith }

pub loop-t-preserved : goal.loop-t-preserved
loop-t-preserved c =
    let p = pipeline_of c.args.asked.now.checked.now in
    let inside : c.loop-t.t < length p.graph = omega (arith, c.len-t-end.ensures.value, ap length c.graph.ensures.value, graph-long c.args.asked.now.checked.now.graph) in
    elim c.if-is_used.branch [
      | then-is_used b ↦ (let m : b.max-most.result ≡ max c.loop-t.most b.rows_of.result = search rules in
          rw b.most-is record {
            most = most-more p c.args.asked.now.plan.now c.args.chunk c.loop-t.t c.loop-t.most b.rows_of.result _ (sym c.is_used.ensures ∙ b.if-is_used.true) inside c.loop-t.invariant.most b.rows_of.ensures.value m;
            few = omega (arith, m, c.loop-t.invariant.few, b.rows_of.ensures.few);
          })
      | else-is_used b ↦
          rw b.most-is record {
            most = most-same p c.args.asked.now.plan.now c.args.chunk c.loop-t.t c.loop-t.most c.loop-t.invariant.most (sym c.is_used.ensures ∙ b.if-is_used.false);
            few = c.loop-t.invariant.few;
          }
    ]

pub returns-clause-most : goal.returns-clause-most
returns-clause-most c =
    let e : c.loop-t.t ≡ length (pipeline_of c.args.asked.now.checked.now).graph = omega (arith, c.loop-t.auto.t-end, c.len-t-end.ensures.value, ap length c.graph.ensures.value, graph-long c.args.asked.now.checked.now.graph) in
    subst (λ (n : ℕ). IsMost (pipeline_of c.args.asked.now.checked.now) c.args.asked.now.plan.now c.args.chunk n c.loop-t.most) e c.loop-t.invariant.most
