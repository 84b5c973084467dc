-- The plan of the run.
use Rattle.std.specs.Prelude.{◌≡◌}
use Rattle.pl_planner.specs.Plans.{Planned, IsPlanOf}
use Rattle.pl_bench.specs.StatedWorld.{stated_days}
use Rattle.pl_bench.specs.Pipeline.{bench_pipeline}

-- a plan of the pipeline over the sessions of the stated world, for the run's range
pub record IsBenchPlan (plan : Planned) : Type 0 where
  pub is : IsPlanOf stated_days bench_pipeline plan
  pub from : plan.from ≡ 252
  pub to : plan.to ≡ 599
