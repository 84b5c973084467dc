-- Rows that are written place after place.
use Rattle.std.proofs.Common.{ℕ, ◌+◌, ◌<◌, ℤ, pos, List, length, get_or, set, sym, ◌∙◌, ap, subst, arith, inl, inr, get_or-set_same, get_or-set_other}
use Rattle.std.proofs.lemmas.Bool.{cases_eq}

-- one cell more
pub one_given : (P : ℕ → ℤ → Type 0) (done : ℕ) (out : List ℤ) (x : ℤ) → ((m : ℕ) → m < done → P m (get_or out m (pos 0))) → done < length out → P done x
    → (m : ℕ) → m < done + 1 → P m (get_or (set out done x) m (pos 0))
one_given P done out x so_far room here m h = elim (cases_eq m done) [
  | inl p ↦ subst (P m) (sym (ap (λ k. get_or (set out done x) k (pos 0)) p ∙ get_or-set_same out done x (pos 0) room)) (subst (λ k. P k x) (sym p) here)
  | inr p ↦ subst (P m) (sym (get_or-set_other out done m x (pos 0) p)) (so_far m (omega (arith, h, p)))
]
