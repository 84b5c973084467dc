-- The pipeline has a plan from session 252 on, whatever the days of the sessions are.
use Rattle.std.proofs.Common.{◌≡◌, ℕ, zero, suc, ◌-◌, ℤ, pos, List, Some, slice_get, refl, subst, ◌∙◌, arith}
use Rattle.std.proofs.lemmas.Int.{ints}
use Rattle.pl_spec.specs.Window.{before}
use Rattle.pl_pipeline.specs.Term.{Node, TermInput}
use Rattle.pl_pipeline.specs.Graph.{reach, reads_at}
use Rattle.pl_pipeline.specs.Lows.{Reads, input, mask, group, Needs, output, read, least_reach}
use Rattle.pl_spec.proofs.Windows.{before-zero}
use Rattle.pl_terms.specs.Uses.{outputs}
use Rattle.pl_planner.specs.declared.plans.PlanError.{PlanError}
use Rattle.pl_planner.specs.declared.plans.PlanError.TheVariants.{TooEarly, TooDeep, Memory}
use Rattle.pl_planner.specs.Plans.{IsPlanFault}
use Rattle.pl_bench.specs.Pipeline.{bench_pipeline, average_dollar_volume, top, returns, sector, rank}

-- ---- the first session is late enough

pub reach-is : (days : List ℤ) → least_reach days bench_pipeline.graph (outputs bench_pipeline) (pos 252) ≡ pos 0
unfolding bench_pipeline reach
reach-is days = refl

-- ---- no term is read over a window

-- it reads terms on its own session alone
abbrev IsPlain : Node → Type 0
IsPlain n = (days : List ℤ) (i t : ℕ) (s : ℤ) → slice_get n.inputs i ≡ Some (TermInput t) → before (reads_at days n.kind s) (n.window - 1) ≡ s

reads-columns : IsPlain average_dollar_volume
reads-columns days zero t s h = absurd (cc)
reads-columns days (suc zero) t s h = absurd (cc)
reads-columns days (suc (suc i)) t s h = absurd (cc)

reads-column : IsPlain returns
reads-column days zero t s h = absurd (cc)
reads-column days (suc i) t s h = absurd (cc)

plain-node : (u : ℕ) (n : Node) → slice_get bench_pipeline.graph u ≡ Some n → IsPlain n
unfolding bench_pipeline
plain-node zero n h = let e : average_dollar_volume ≡ n = cc in subst IsPlain e reads-columns
plain-node (suc zero) n h = let e : top ≡ n = cc in subst IsPlain e (λ days i t s at. before-zero s)
plain-node (suc (suc zero)) n h = let e : returns ≡ n = cc in subst IsPlain e reads-column
plain-node (suc (suc (suc zero))) n h = let e : sector ≡ n = cc in subst IsPlain e (λ days i t s at. before-zero s)
plain-node (suc (suc (suc (suc zero)))) n h = let e : rank ≡ n = cc in subst IsPlain e (λ days i t s at. before-zero s)
plain-node (suc (suc (suc (suc (suc u))))) n h = absurd (cc)

same-session : (days : List ℤ) (n : Node) (s : ℤ) (t : ℕ) (r : ℤ) → IsPlain n → Reads days n s t r → r ≡ s
same-session days n s t r plain (input i at) = plain days i t s at
same-session days n s t r plain (mask at) = refl
same-session days n s t r plain (group at) = refl

needed-then : (days : List ℤ) (from : ℤ) (t : ℕ) (r : ℤ) → Needs days bench_pipeline.graph (outputs bench_pipeline) from t r → r ≡ from
needed-then days from t r (output h) = refl
needed-then days from t r (read u n s needed at reads) = same-session days n s t r (plain-node u n at) reads ∙ needed-then days from u s needed

-- ---- so a plan fails for want of memory alone

pub only-memory : (days : List ℤ) (e : PlanError) → IsPlanFault days bench_pipeline 252 599 e → e ≡ Memory
only-memory days (TooEarly r) h = absurd (let zero_or : r ≡ pos 0 = h.0 ∙ reach-is days in let low = h.1 in omega (arith, ints))
only-memory days (TooDeep n) h =
    absurd (let low : h.1.low ≡ pos h.1.session = needed-then days (pos h.1.session) h.1.term h.1.low h.1.is_low.needed in
    let deep = h.1.is in let many = h.2 in omega (arith, ints))
only-memory days Memory h = refl
