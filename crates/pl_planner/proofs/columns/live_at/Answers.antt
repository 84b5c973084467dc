use Rattle.std.proofs.Common.{◌≡◌, ap, ◌∙◌, ◌+◌, ◌≤◌, sym, arith, cond}
use Rattle.pl_planner.specs.Uses.{is_kept}
use Rattle.pl_planner.proofs.Counting.{count_more, one_at_most}
use Rattle.pl_planner.proofs.columns.live_at.Goals as goal

pub loop-t-preserved : goal.loop-t-preserved
loop-t-preserved c =
    let one : c.one_if-live.result ≡ cond (is_kept c.args.uses.now c.args.k c.loop-t.t) 1 0 = c.one_if-live.ensures ∙ ap (λ b. cond b 1 0) c.is_kept.ensures in
    let few : c.one_if-live.result ≤ 1 = one_at_most _ _ one in
    record {
      live = ap (λ n. c.loop-t.live + n) one ∙ ap (λ n. n + cond (is_kept c.args.uses.now c.args.k c.loop-t.t) 1 0) c.loop-t.invariant.live ∙ sym (count_more (is_kept c.args.uses.now c.args.k) c.loop-t.t);
      few = omega (arith, few, c.loop-t.invariant.few);
    }
