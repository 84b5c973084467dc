use Rattle.std.proofs.Common.{◌≡◌, ◌+◌, ap, ◌∙◌, sym, arith, length, max}
use Rattle.pl_spec.specs.Limits.{saturated}
use Rattle.pl_exec.specs.Tasks.{graph_in, held_in, steps_in}
use Rattle.pl_exec.specs.ChunkInputs.{task_of}
use Rattle.pl_exec.proofs.Listed.{sum_more}
use Rattle.pl_exec.proofs.Releases.{cut_more, most_three}
use Rattle.pl_exec.proofs.Sids.{held_most, outputs_held, steps_sum}
use Rattle.pl_planner.proofs.Counting.{most_more}
use Rattle.pl_exec.proofs.chunk.run_terms.Goals as goal

pub loop-k-preserved : goal.loop-k-preserved
loop-k-preserved g c =
    let m = most_more (held_in (task_of c.args.chunk.now)) c.loop-k.k in
    let s = sum_more (steps_in (task_of c.args.chunk.now)) c.loop-k.k in
    let i = c.loop-k.invariant in
    let r = c.run_term-filled.ensures in
    record {
      live = c.run_term-filled.ensures.live;
      most = most_three _ _ _ _ _ c.loop-k.invariant.most c.run_term-filled.ensures.peak ∙ ap (max c.args.workspace.now.peak) (sym m);
      held = omega (arith, c.greater-peak.ensures, c.loop-k.invariant.held, c.run_term-filled.ensures.held, m);
      cost = omega (arith, c.loop-k.invariant.cost, c.run_term-filled.ensures.cost, s);
      applied = cut_more _ _ _ _ _ _ c.loop-k.invariant.applied c.run_term-filled.ensures.applied s c.capped_sum-applied.ensures;
      counted = c.run_term-filled.ensures.counted;
      len = c.run_term-filled.ensures.len ∙ c.loop-k.invariant.len;
      size = c.run_term-filled.ensures.slots ∙ c.loop-k.invariant.size;
      cross = c.run_term-filled.ensures.cross ∙ c.loop-k.invariant.cross;
      rows = c.run_term-filled.ensures.rows ∙ c.loop-k.invariant.rows;
    }

pub returns-clause-outputs : goal.returns-clause-outputs
returns-clause-outputs g c =
    let all : c.loop-k.k ≡ length (graph_in (task_of c.args.chunk.now)) = omega (arith, c.loop-k-test.false, c.loop-k.auto.k-end, c.term_count-k-end.ensures) in
    outputs_held (task_of c.args.chunk.now) c.requires.chunk.task c.loop-k.k all c.loop-k.workspace c.loop-k.invariant.live

pub returns-clause-workspace : goal.returns-clause-workspace
returns-clause-workspace g c =
    let all : c.loop-k.k ≡ length (graph_in (task_of c.args.chunk.now)) = omega (arith, c.loop-k-test.false, c.loop-k.auto.k-end, c.term_count-k-end.ensures) in
    c.loop-k.invariant.most ∙ ap (max c.args.workspace.now.peak) (held_most (task_of c.args.chunk.now) c.requires.chunk.task c.loop-k.k all)

pub returns-clause-peak : goal.returns-clause-peak
returns-clause-peak g c =
    let all : c.loop-k.k ≡ length (graph_in (task_of c.args.chunk.now)) = omega (arith, c.loop-k-test.false, c.loop-k.auto.k-end, c.term_count-k-end.ensures) in
    c.loop-k.invariant.held ∙ held_most (task_of c.args.chunk.now) c.requires.chunk.task c.loop-k.k all

pub returns-clause-applied : goal.returns-clause-applied
returns-clause-applied g c =
    let all : c.loop-k.k ≡ length (graph_in (task_of c.args.chunk.now)) = omega (arith, c.loop-k-test.false, c.loop-k.auto.k-end, c.term_count-k-end.ensures) in
    c.loop-k.invariant.applied ∙ ap saturated (steps_sum (task_of c.args.chunk.now) c.requires.chunk.task c.loop-k.k all)

pub returns-clause-cost : goal.returns-clause-cost
returns-clause-cost g c =
    let all : c.loop-k.k ≡ length (graph_in (task_of c.args.chunk.now)) = omega (arith, c.loop-k-test.false, c.loop-k.auto.k-end, c.term_count-k-end.ensures) in
    c.loop-k.invariant.cost ∙ ap (λ m. c.args.steps.now + m) (steps_sum (task_of c.args.chunk.now) c.requires.chunk.task c.loop-k.k all)
