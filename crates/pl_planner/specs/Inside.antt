-- Plans as the code keeps them.
use Rattle.pl_planner.specs.declared.plans.Plan.TheInside.{Inside}
use Rattle.pl_planner.specs.Cones.{cones_of}
use Rattle.pl_planner.specs.Plans.{Planned, KeepsLimits}

abbrev pub planned_of : Inside → Planned
planned_of p = record { from = p.from; to = p.to; reach = p.reach; bound = p.bound; uses = p.uses.items; extras = p.extras.items; slots = p.slots.items; cones = cones_of p.cones.items }

abbrev pub KeepsLimitsInside : Inside → Type 0
KeepsLimitsInside p = KeepsLimits (planned_of p)
