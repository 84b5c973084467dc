use Rattle.std.proofs.Common.{arith}
use Rattle.pl_bench.proofs.Days.{length-stated_days}
use Rattle.pl_bench.proofs.Ranges.{only-memory}
use Rattle.pl_bench.proofs.pipeline.make_plan.Goals as goal

pub plan-requires-clause-within : goal.plan-requires-clause-within
plan-requires-clause-within c = rw c.requires.sessions (omega (arith, length-stated_days))

pub planner_memory-requires : goal.planner_memory-requires
planner_memory-requires c = only-memory _ c.in-Err.error (rw c.requires.checked at c.in-Err.ensures.fault)
