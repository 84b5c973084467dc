-- The text of a plan by the definitions.
use Rattle.std.proofs.Common.{◌≡◌, ℕ, ◌-◌, ◌≤◌, pos, ◌-ℤ◌, ap, ◌∙◌, subst, arith}
use Rattle.std.proofs.lemmas.Int.{ints}
use Rattle.pl_pipeline.specs.Lows.{IsLow, least_reach}
use Rattle.pl_terms.specs.Uses.{outputs}
use Rattle.pl_planner.specs.Plans.{low_at, extra, IsAsked}
use Rattle.pl_planner.specs.Text.{plan_text}
use Rattle.pl_planner.specs.TextLaws.{PlanTextsAreExact}

back : (from low : ℕ) → low ≤ from → pos low ≡ pos from -ℤ pos (from - low)
back from low h = omega (arith, ints)

pub plans-told : PlanTextsAreExact
plans-told days p plan is = record {
  extra = extra plan;
  low = λ t used. (let asked : IsAsked plan t plan.from = (is.used t ∙ used, (same plan.from, is.order)) in
      subst (IsLow days p.graph (outputs p) (pos plan.from) t) (back plan.from (low_at plan t plan.from) (is.lows.few t plan.from asked).0) (is.lows.exact t plan.from asked));
  is = ap (λ r. plan_text p (extra plan) r plan.bound) is.least ∙ ap (plan_text p (extra plan) (least_reach days p.graph (outputs p) (pos plan.from))) is.held;
}
  where
    same : (n : ℕ) → n ≤ n
    same n = omega arith
