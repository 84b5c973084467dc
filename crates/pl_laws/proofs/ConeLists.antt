-- The listed terms of a cone are exactly its terms, and those of its border the border's.
use Rattle.std.proofs.Common.{◌≡◌, ℕ, zero, suc, ◌+◌, ◌-◌, Bool, true, false, not, cond, List, [], ◌∷◌, ◌++◌, map, filter, filter_map, flat_map, Option, Some, None, option_to_list, refl, sym, ◌∙◌, ap, append-nil, inl, inr, slice_get, ◌==◌}
use Rattle.std.proofs.lemmas.Bool.{or_cases, or_left, or_right, eqb-true, eq-eqb, true≢false}
use Rattle.pl_pipeline.specs.Kind.{Kind}
use Rattle.pl_pipeline.specs.Kind.Kind.{Window}
use Rattle.pl_pipeline.specs.Term.{Input, Node, Graph, IsGraph, term_at}
use Rattle.pl_pipeline.specs.Term.Input.{BarColumn, TermInput}
use Rattle.pl_pipeline.specs.Graph.{input_number, contains, mentions_at}
use Rattle.pl_pipeline.specs.Value.{is_steady}
use Rattle.pl_pipeline.specs.NodeValue.{AllReadSteady}
use Rattle.pl_pipeline.specs.Cones.{moves_at, is_windowed, Follows, Borders, inputs_at, masks_at, windowed_at, moving_inputs, steady_inputs, window_at, depths_below, cone_depths, HasDepth, cone_terms, border_terms, reads_of}
use Rattle.pl_pipeline.proofs.Contained.{in-front, in-back, option-in}
use Rattle.pl_laws.proofs.ConeInputs.{in_either, kept-in, in-kept, option-place, listed-input, input-listed}
use Rattle.pl_laws.proofs.ConeDepths.{depths-sound, depths-greatest}

-- ---- the cone

listed : (ps : List (ℕ × ℕ)) (u : ℕ) → contains (map (λ p. p.0) ps) u ≡ true → (m : ℕ) × HasDepth u m ps
listed [] u h = absurd (true≢false (sym h))
listed (p ∷ ps) u h = elim (or_cases (p.0 == u) (contains (map (λ q. q.0) ps) u) h) [
  | inl e ↦ (p.1, inl (ap (λ k. (k, p.1)) (eqb-true p.0 u e)))
  | inr e ↦ (let r = listed ps u e in (r.0, inr r.1))
]

has-listed : (ps : List (ℕ × ℕ)) (u m : ℕ) → HasDepth u m ps → contains (map (λ p. p.0) ps) u ≡ true
has-listed [] u m h = absurd h
has-listed (p ∷ ps) u m (inl e) = or_left (p.0 == u) (contains (map (λ q. q.0) ps) u) (eq-eqb p.0 u (ap (λ (q : ℕ × ℕ). q.0) e))
has-listed (p ∷ ps) u m (inr h) = or_right (p.0 == u) (contains (map (λ q. q.0) ps) u) (has-listed ps u m h)

module _ (g : Graph) (ok : IsGraph g) (t : ℕ) where
  abbrev IsInCone : ℕ → Type 0
  IsInCone u = (m : ℕ) × Follows g t u m

  pub cone-sound : (u : ℕ) → contains (cone_terms g t) u ≡ true → IsInCone u
  cone-sound u h = let r = listed (cone_depths g t) u h in (r.0, depths-sound g ok t u r.0 r.1)

  pub cone-complete : (u m : ℕ) → Follows g t u m → contains (cone_terms g t) u ≡ true
  cone-complete u m f = let r = depths-greatest g ok t u m f in has-listed (cone_depths g t) u r.0 r.1

  -- ---- its border

  abbrev IsInBorder : ℕ → Type 0
  IsInBorder b = (m : ℕ) × Borders g t b m

  steady-not : (k : ℕ) → moves_at g k ≡ false → not (moves_at g k) ≡ true
  steady-not k e = rw e refl

  not-steady : (k : ℕ) → not (moves_at g k) ≡ true → moves_at g k ≡ false
  not-steady k = by (moves_at g k)
    where
      by : (b : Bool) → not b ≡ true → b ≡ false
      by true e = sym e
      by false e = refl

  abbrev border_at : ℕ → List ℕ
  border_at u = steady_inputs g u ++ masks_at g u

  listed-mask : (v b : ℕ) → contains (masks_at g v) b ≡ true → (n : Node) × (slice_get g v ≡ Some n) × (n.mask ≡ Some b)
  listed-mask v b h = found (slice_get g v) refl
    where
      found : (o : Option Node) → slice_get g v ≡ o → (n : Node) × (slice_get g v ≡ Some n) × (n.mask ≡ Some b)
      found None e = let none : contains [] b ≡ true = rw e at h in absurd (true≢false (sym none))
      found (Some n) e = let some : contains (option_to_list n.mask) b ≡ true = rw e at h in (n, e, option-place n.mask b some)

  border-at-sound : (v b : ℕ) → IsInCone v → contains (border_at v) b ≡ true → IsInBorder b
  border-at-sound v b (m, f) h = elim (in_either (steady_inputs g v) (masks_at g v) b h) [
    | inl i ↦ (let both = in-kept (λ u. not (moves_at g u)) (inputs_at g v) b i in
        let r = listed-input g ok v b both.0 in
        (m + (r.0.window - 1), Borders.input v m r.0 r.1 f r.2 r.3 (not-steady b both.1)))
    | inr i ↦ (let r = listed-mask v b i in (m, Borders.mask v m r.0 f r.1 r.2))
  ]

  border-at-complete : (b m : ℕ) → Borders g t b m → (v : ℕ) × IsInCone v × (contains (border_at v) b ≡ true)
  border-at-complete b m (Borders.input v k n i f e at h) =
      (v, (k, f), in-front (steady_inputs g v) (masks_at g v) b (kept-in (λ u. not (moves_at g u)) (inputs_at g v) b (steady-not b h) (input-listed g ok v b (n, i, e, at))))
  border-at-complete b m (Borders.mask v k n f e at) =
      let listed : contains (masks_at g v) b ≡ true = rw e (option-in n.mask b at) in
      (v, (m, f), in-back (steady_inputs g v) (masks_at g v) b listed)

  -- over a list of terms
  over : (vs : List ℕ) (b : ℕ) → contains (flat_map border_at vs) b ≡ true → (v : ℕ) × (contains vs v ≡ true) × (contains (border_at v) b ≡ true)
  over [] b h = absurd (true≢false (sym h))
  over (v ∷ vs) b h = elim (in_either (border_at v) (flat_map border_at vs) b h) [
    | inl i ↦ (v, or_left (v == v) (contains vs v) (eq-eqb v v refl), i)
    | inr i ↦ (let r = over vs b i in (r.0, or_right (v == r.0) (contains vs r.0) r.1, r.2))
  ]

  into : (vs : List ℕ) (v b : ℕ) → contains vs v ≡ true → contains (border_at v) b ≡ true → contains (flat_map border_at vs) b ≡ true
  into [] v b h i = absurd (true≢false (sym h))
  into (x ∷ vs) v b h i = elim (or_cases (x == v) (contains vs v) h) [
    | inl e ↦ in-front (border_at x) (flat_map border_at vs) b (ap (λ k. contains (border_at k) b) (eqb-true x v e) ∙ i)
    | inr e ↦ in-back (border_at x) (flat_map border_at vs) b (into vs v b e i)
  ]

  pub border-sound : (b : ℕ) → contains (border_terms g t) b ≡ true → IsInBorder b
  border-sound b h = let r = over (cone_terms g t) b h in border-at-sound r.0 b (cone-sound r.0 r.1) r.2

  pub border-complete : (b m : ℕ) → Borders g t b m → contains (border_terms g t) b ≡ true
  border-complete b m f = let r = border-at-complete b m f in into (cone_terms g t) r.0 b (cone-complete r.0 r.1.0 r.1.1) r.2

-- ---- where windows hold what is steady

no-cone : (g : Graph) (n : ℕ) → depths_below g n [] ≡ []
no-cone g zero = refl
no-cone g (suc n) = ap (λ l. l ++ []) (no-cone g n)

none-marked : (b : Bool) (f : ℕ → ℕ × ℕ) (us : List ℕ) → cond b us [] ≡ [] → cond b (map f us) [] ≡ []
none-marked true f us e = ap (map f) e
none-marked false f us e = refl

no-moving : (g : Graph) (is : List Input) → ((i j : ℕ) → slice_get is i ≡ Some (TermInput j) → is_steady (term_at g j) ≡ true)
    → filter (moves_at g) (filter_map input_number is) ≡ []
no-moving g [] h = refl
no-moving g (BarColumn c ∷ is) h = no-moving g is (λ i. h (suc i))
no-moving g (TermInput u ∷ is) h =
    let steady : moves_at g u ≡ false = ap not (h 0 u refl) in rw steady (no-moving g is (λ i. h (suc i)))

module _ (g : Graph) (steady : AllReadSteady g) (t : ℕ) where
  no-firsts : cond (windowed_at g t) (moving_inputs g t) [] ≡ []
  no-firsts = found (slice_get g t) refl
    where
      found : (o : Option Node) → slice_get g t ≡ o → cond (windowed_at g t) (moving_inputs g t) [] ≡ []
      found None e = rw e refl
      found (Some n) e = rw e (by_kind n.kind refl)
        where
          by_kind : (k : Kind) → n.kind ≡ k → cond (is_windowed k) (filter (moves_at g) (filter_map input_number n.inputs)) [] ≡ []
          by_kind (Window k) f = no-moving g n.inputs (steady t n e k f)
          by_kind k f = refl

  pub no-cone-at : cone_terms g t ≡ []
  no-cone-at =
      ap (λ marks. map (λ p. p.0) (depths_below g t marks)) (none-marked (windowed_at g t) (λ u. (u, 0 + (window_at g t - 1))) (moving_inputs g t) no-firsts)
      ∙ ap (map (λ p. p.0)) (no-cone g t)

  pub reads-mentions : reads_of g t ≡ mentions_at g t
  reads-mentions = ap (λ us. mentions_at g t ++ flat_map (λ u. steady_inputs g u ++ masks_at g u) us) no-cone-at ∙ append-nil (mentions_at g t)
