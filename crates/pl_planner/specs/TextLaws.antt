-- What the text of a plan tells.
use Rattle.std.specs.Prelude.{ℤ, List}
use Rattle.pl_pipeline.specs.Table.{Pipeline}
use Rattle.pl_planner.specs.Plans.{Planned, IsPlanOf, extra}
use Rattle.pl_planner.specs.Text.{plan_text, IsPlanText}

-- a plan's text has the extra rows, the reach and the bound of the definitions
abbrev pub PlanTextsAreExact : Type 0
PlanTextsAreExact = (days : List ℤ) (p : Pipeline) (plan : Planned) → IsPlanOf days p plan
    → IsPlanText days p plan.from (plan_text p (extra plan) plan.reach plan.bound)
