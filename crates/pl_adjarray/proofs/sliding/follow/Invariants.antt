use Rattle.std.proofs.Common.{◌≡◌, ◌+◌, ◌-◌, ◌≤◌}
use Rattle.pl_adjarray.specs.Buffered.{applied_at}
use Rattle.pl_adjarray.specs.Traversals.{IsSeen}
use Rattle.pl_adjarray.proofs.sliding.follow.Given as goal

abbrev pub invariant-loop-session : goal.invariant-loop-session
invariant-loop-session g l = record {
  within : l.session ≤ l.to;
  seen : IsSeen l.array l.scratch l.session l.applied;
  cost : l.steps + applied_at l.array l.fn.from ≡ l.fn.steps + applied_at l.array l.session;
}

abbrev pub decreases-loop-session : goal.decreases-loop-session
decreases-loop-session g l = l.to - l.session
