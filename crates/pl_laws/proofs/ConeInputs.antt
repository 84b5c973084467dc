-- The terms among a term's inputs, and that a cone has lower numbers alone.
use Rattle.std.proofs.Common.{◌≡◌, ℕ, suc, ◌<◌, Bool, true, false, cond, List, [], ◌∷◌, ◌++◌, filter, filter_map, Option, Some, None, option_to_list, refl, sym, ◌∙◌, ap, arith, inl, inr, ◌⊎◌, slice_get, ◌==◌}
use Rattle.std.proofs.lemmas.Bool.{or_cases, or_left, or_right, eqb-true, true≢false}
use Rattle.std.proofs.lemmas.List.Folds.{list_any-append}
use Rattle.pl_pipeline.specs.Term.{Input, Node, Graph, IsGraph}
use Rattle.pl_pipeline.specs.Term.Input.{BarColumn, TermInput}
use Rattle.pl_pipeline.specs.Graph.{input_number, contains}
use Rattle.pl_pipeline.specs.Cones.{moves_at, Follows, inputs_at, moving_inputs}
use Rattle.pl_pipeline.proofs.Contained.{in-alone, input-in}

-- ---- lists

pub in_either : (xs ys : List ℕ) (k : ℕ) → contains (xs ++ ys) k ≡ true → (contains xs k ≡ true) ⊎ (contains ys k ≡ true)
in_either xs ys k h = or_cases (contains xs k) (contains ys k) (sym (list_any-append (λ x. x == k) xs ys) ∙ h)

pub kept-in : (p : ℕ → Bool) (xs : List ℕ) (k : ℕ) → p k ≡ true → contains xs k ≡ true → contains (filter p xs) k ≡ true
kept-in p [] k e h = h
kept-in p (x ∷ xs) k e h = elim (or_cases (x == k) (contains xs k) h) [
  | inl f ↦ (let same : x ≡ k = eqb-true x k f in let keeps : p x ≡ true = ap p same ∙ e in rw keeps (or_left (x == k) (contains (filter p xs) k) f))
  | inr f ↦ here (p x) (kept-in p xs k e f)
]
  where
    here : (b : Bool) → contains (filter p xs) k ≡ true → contains (cond b (x ∷ filter p xs) (filter p xs)) k ≡ true
    here true i = or_right (x == k) (contains (filter p xs) k) i
    here false i = i

pub in-kept : (p : ℕ → Bool) (xs : List ℕ) (k : ℕ) → contains (filter p xs) k ≡ true → (contains xs k ≡ true) × (p k ≡ true)
in-kept p [] k h = absurd (true≢false (sym h))
in-kept p (x ∷ xs) k h = here (p x) refl h (in-kept p xs k)
  where
    here : (b : Bool) → p x ≡ b → contains (cond b (x ∷ filter p xs) (filter p xs)) k ≡ true
        → (contains (filter p xs) k ≡ true → (contains xs k ≡ true) × (p k ≡ true)) → (contains (x ∷ xs) k ≡ true) × (p k ≡ true)
    here true e i more = elim (or_cases (x == k) (contains (filter p xs) k) i) [
      | inl f ↦ (or_left (x == k) (contains xs k) f, ap p (sym (eqb-true x k f)) ∙ e)
      | inr f ↦ (let r = more f in (or_right (x == k) (contains xs k) r.0, r.1))
    ]
    here false e i more = let r = more i in (or_right (x == k) (contains xs k) r.0, r.1)

input-place : (is : List Input) (k : ℕ) → contains (filter_map input_number is) k ≡ true → (i : ℕ) × (slice_get is i ≡ Some (TermInput k))
input-place [] k h = absurd (true≢false (sym h))
input-place (BarColumn c ∷ is) k h = let r = input-place is k h in (suc r.0, r.1)
input-place (TermInput u ∷ is) k h = elim (or_cases (u == k) (contains (filter_map input_number is) k) h) [
  | inl e ↦ (0, ap (λ x. Some (TermInput x)) (eqb-true u k e))
  | inr e ↦ (let r = input-place is k e in (suc r.0, r.1))
]

pub option-place : (o : Option ℕ) (k : ℕ) → contains (option_to_list o) k ≡ true → o ≡ Some k
option-place None k h = absurd (true≢false (sym h))
option-place (Some u) k h = ap Some (in-alone u k h)

-- ---- nodes

module _ (g : Graph) (ok : IsGraph g) where
  -- an input that is a term
  abbrev pub IsInput : ℕ → ℕ → Type 0
  IsInput v k = (n : Node) × (i : ℕ) × (slice_get g v ≡ Some n) × (slice_get n.inputs i ≡ Some (TermInput k))

  pub listed-input : (v k : ℕ) → contains (inputs_at g v) k ≡ true → IsInput v k
  listed-input v k h = found (slice_get g v) refl
    where
      found : (o : Option Node) → slice_get g v ≡ o → IsInput v k
      found None e = let none : contains [] k ≡ true = rw e at h in absurd (true≢false (sym none))
      found (Some n) e = let some : contains (filter_map input_number n.inputs) k ≡ true = rw e at h in let r = input-place n.inputs k some in (n, r.0, e, r.1)

  pub input-listed : (v k : ℕ) → IsInput v k → contains (inputs_at g v) k ≡ true
  input-listed v k (n, i, e, at) = rw e (input-in n.inputs i k at)

  pub input-lower : (v k : ℕ) → IsInput v k → k < v
  input-lower v k (n, i, e, at) = (ok.lower v n e).inputs i k at

  pub moving-listed : (v k : ℕ) → IsInput v k → moves_at g k ≡ true → contains (moving_inputs g v) k ≡ true
  moving-listed v k is h = kept-in (moves_at g) (inputs_at g v) k h (input-listed v k is)

  pub listed-moving : (v k : ℕ) → contains (moving_inputs g v) k ≡ true → IsInput v k × (moves_at g k ≡ true)
  listed-moving v k h = let both = in-kept (moves_at g) (inputs_at g v) k h in (listed-input v k both.0, both.1)

  pub cone-lower : (t u m : ℕ) → Follows g t u m → u < t
  cone-lower t u m (Follows.input n i e w at h) = input-lower t u (n, i, e, at)
  cone-lower t u m (Follows.through v k n i f e at h) =
      let here : u < v = input-lower v u (n, i, e, at) in
      let there : v < t = cone-lower t v k f in
      omega arith
