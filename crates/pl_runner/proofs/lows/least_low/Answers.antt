use Rattle.std.proofs.Common.{rules, ◌≡◌, ◌≤◌, ◌∙◌, min, length, sym, ap, arith}
use Rattle.pl_terms.specs.Checked.{pipeline_of}
use Rattle.pl_terms.proofs.Graphs.{graph-long}
use Rattle.pl_runner.proofs.Terms.{so-far-none, so-far-end, so-far-same, so-far-more}
use Rattle.pl_runner.proofs.lows.least_low.Goals as goal
use Rattle.pl_runner.proofs.lows.least_low.Goals.{then-is_used, else-is_used}

pub loop-t-init : goal.loop-t-init
loop-t-init c = so-far-none c.args.asked.now.plan.now c.args.from

pub loop-t-preserved : goal.loop-t-preserved
loop-t-preserved c =
    elim c.if-is_used.branch [
      | then-is_used b ↦ (let m : b.min-low.result ≡ min c.loop-t.low b.low_at.result = search rules in
          rw b.low-is (so-far-more c.args.asked.now.plan.now c.args.from c.loop-t.t c.loop-t.low b.low_at.result c.loop-t.invariant (sym c.is_used.ensures ∙ b.if-is_used.true) b.low_at.ensures.value b.low_at.ensures.within _ m))
      | else-is_used b ↦ rw b.low-is (so-far-same c.args.asked.now.plan.now c.args.from c.loop-t.t c.loop-t.low c.loop-t.invariant (sym c.is_used.ensures ∙ b.if-is_used.false))
    ]

pub returns-clause-least : goal.returns-clause-least
returns-clause-least c =
    let done : length (pipeline_of c.args.asked.now.checked.now).graph ≤ c.loop-t.t = omega (arith, c.len-t-end.ensures.value, ap length c.graph.ensures.value, graph-long c.args.asked.now.checked.now.graph) in
    so-far-end c.args.asked.now.world.sessions.now (pipeline_of c.args.asked.now.checked.now) c.args.asked.now.plan.now c.args.from c.loop-t.t c.loop-t.low c.requires.asked.checked c.requires.asked.plan c.requires.from c.requires.to done c.loop-t.invariant
