-- A plan over a calendar is one over each other that has the same sessions up to its last one.
use Rattle.std.proofs.Common.{ℕ, ◌<◌, ◌≤◌, ℤ, pos, List, length, ◌∙◌, arith}
use Rattle.std.proofs.lemmas.Int.{ints}
use Rattle.pl_pipeline.specs.Table.{Pipeline}
use Rattle.pl_laws.proofs.Calendars.{SameDays, least_reach-same, lows-same}
use Rattle.pl_terms.specs.Uses.{outputs}
use Rattle.pl_planner.specs.Plans.{Planned, IsPlanOf}

pub plan-same : (days other : List ℤ) (k : ℕ) (p : Pipeline) (plan : Planned) → SameDays days other (pos k) → plan.to ≤ k → plan.to < length other → IsPlanOf days p plan → IsPlanOf other p plan
plan-same days other k p plan same last within is =
    record {
      order = is.order;
      within = within;
      used = is.used;
      least = is.least ∙ least_reach-same days other (pos k) same p.graph (outputs p) (pos plan.from) (let order = is.order in omega (arith, ints));
      early = is.early;
      lows = record {
        exact = λ t s asked. lows-same days other (pos k) same p.graph (outputs p) (pos s) (let until = asked.1.1 in omega (arith, ints)) t _ (is.lows.exact t s asked);
        few = is.lows.few;
        covered = is.lows.covered;
        bars = is.lows.bars;
      };
      held = is.held;
      last = is.last;
      live = is.live;
      slots = is.slots;
      cones = is.cones;
    }
