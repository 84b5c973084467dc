-- Used terms, and the least of their first sessions.
use Rattle.std.proofs.Common.{◌≡◌, ◌⊎◌, inl, inr, ℕ, ◌+◌, ◌<◌, ◌≤◌, min, true, false, ℤ, List, length, refl, sym, ap, subst, ◌∙◌, arith}
use Rattle.std.proofs.lemmas.Bool.{true≢false, cases_eq}
use Rattle.pl_pipeline.specs.Table.{Pipeline}
use Rattle.pl_pipeline.proofs.Contained.{used-below}
use Rattle.pl_terms.specs.Checked.{IsChecked}
use Rattle.pl_terms.specs.Uses.{outputs}
use Rattle.pl_planner.specs.Plans.{Planned, IsPlanOf, is_used, low_at}
use Rattle.pl_planner.proofs.Pipelines.{some-output, output-used}
use Rattle.pl_runner.specs.Chunks.{IsLeast}

pub used-within : (days : List ℤ) (p : Pipeline) (plan : Planned) → IsPlanOf days p plan → (k : ℕ) → is_used plan k ≡ true → k < length p.graph
used-within days p plan is k h = used-below p.graph (length p.graph) (outputs p) k (sym (is.used k) ∙ h)

-- there is a used term
pub some-used : (days : List ℤ) (p : Pipeline) (plan : Planned) → IsChecked p → IsPlanOf days p plan → (t : ℕ) × (is_used plan t ≡ true)
some-used days p plan ok is = let o = some-output p ok in (o.0, output-used days p plan ok is o.0 o.1)

-- ---- the least low

-- low is the least of those of the used terms below n, or from itself
pub record IsSoFar (plan : Planned) (from n low : ℕ) : Type 0 where
  pub within : low ≤ from
  pub least : (k : ℕ) → k < n → is_used plan k ≡ true → low ≤ low_at plan k from
  pub some : (low ≡ from) ⊎ ((k : ℕ) × (is_used plan k ≡ true) × (low ≡ low_at plan k from))

pub so-far-none : (plan : Planned) (from : ℕ) → IsSoFar plan from 0 from
so-far-none plan from = record { within = omega arith; least = λ k h u. absurd (omega arith); some = inl refl }

pub so-far-same : (plan : Planned) (from n low : ℕ) → IsSoFar plan from n low → is_used plan n ≡ false → IsSoFar plan from (n + 1) low
so-far-same plan from n low h u =
    record {
      within = h.within;
      least = λ k l v. elim (cases_eq k n) [
        | inl e ↦ absurd (true≢false (sym v ∙ ap (is_used plan) e ∙ u))
        | inr f ↦ h.least k (omega arith) v
      ];
      some = h.some;
    }

pub so-far-more : (plan : Planned) (from n low own : ℕ) → IsSoFar plan from n low → is_used plan n ≡ true → own ≡ low_at plan n from → own ≤ from → (l : ℕ) → l ≡ min low own → IsSoFar plan from (n + 1) l
so-far-more plan from n low own h u e w l is =
    record {
      within = omega (arith, h.within);
      least = λ k m v. elim (cases_eq k n) [
        | inl f ↦ (let g = ap (λ (x : ℕ). low_at plan x from) f in omega arith)
        | inr f ↦ (let g = h.least k (omega arith) v in omega arith)
      ];
      some = elim (cases_eq l own) [
        | inl f ↦ inr (n, u, f ∙ e)
        | inr f ↦ (let g : l ≡ low = omega arith in subst (λ (x : ℕ). (x ≡ from) ⊎ ((k : ℕ) × (is_used plan k ≡ true) × (x ≡ low_at plan k from))) (sym g) h.some)
      ];
    }

pub so-far-end : (days : List ℤ) (p : Pipeline) (plan : Planned) (from n low : ℕ) → IsChecked p → IsPlanOf days p plan → plan.from ≤ from → from ≤ plan.to → length p.graph ≤ n → IsSoFar plan from n low → IsLeast p plan from low
so-far-end days p plan from n low ok is a b done h = here h.some
  where
    all : (k : ℕ) → is_used plan k ≡ true → low ≤ low_at plan k from
    all k u = let i = used-within days p plan is k u in h.least k (omega arith) u

    here : (low ≡ from) ⊎ ((k : ℕ) × (is_used plan k ≡ true) × (low ≡ low_at plan k from)) → IsLeast p plan from low
    here (inr k) = record { term = k.0; used = k.1; is = k.2; least = all }
    here (inl e) =
        let t = some-used days p plan ok is in
        let few = (is.lows.few t.0 from (t.1, (a, b))).0 in
        record { term = t.0; used = t.1; is = (let m = all t.0 t.1 in omega arith); least = all }
