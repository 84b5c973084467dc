-- A plan, or why there is none, by the definitions.
use Rattle.std.proofs.Common.{◌≡◌, inl, inr, ℕ, zero, suc, ◌+◌, ◌<◌, ◌≤◌, ◌-◌, true, false, ℤ, pos, ◌-ℤ◌, ◌≤ℤ◌, List, [], ◌∷◌, map, get_or, refl, sym, ◌∙◌, ap, subst, arith}
use Rattle.std.specs.List.{list_any, range_with_len}
use Rattle.std.specs.Int.{int_min, int_gap}
use Rattle.std.specs.Int.RustNames.{int_lt}
use Rattle.std.proofs.lemmas.Bool.Decides.{nat_tests}
use Rattle.std.proofs.lemmas.Int.{ints}
use Rattle.std.proofs.lemmas.List.Folds.{list_any_at}
use Rattle.std.proofs.lemmas.List.FromFn.{get_or-range_with_len, length-range_with_len}
use Rattle.std.specs.Int.Signed.{≤ℤ_refl}
use Rattle.pl_spec.specs.Limits.{most_extra_rows}
use Rattle.pl_pipeline.specs.Graph.{least_of, Used}
use Rattle.pl_pipeline.specs.Lows.{Needs, IsLow}
use Rattle.pl_pipeline.specs.Table.{Pipeline}
use Rattle.pl_spec.proofs.Signed.{le-both}
use Rattle.pl_laws.proofs.Reaches.{AllFrom, below_least}
use Rattle.pl_laws.proofs.Uses.{used_terms-complete}
use Rattle.pl_terms.specs.Checked.{IsChecked}
use Rattle.pl_terms.specs.Uses.{outputs, is_used}
use Rattle.pl_planner.proofs.Pipelines.{IsPipeline, is-pipeline, used-inside}
use Rattle.pl_planner.proofs.Mentions.{needs-used}
use Rattle.pl_planner.specs.Plans.{Planned, IsPlanOf, IsDeepest, IsAsked, low_at}
use Rattle.pl_load.specs.Planning.{Need, sessions_of, needs, first_of, first_of_all, extra_of, HasRows, is_too_deep}
use Rattle.pl_load.proofs.Needed.{IsIn, IsSession, of-term, term-of, in-of-all, all-of-in, all-listed, listed-are}

-- ---- the least of sessions

each-from : (low : ℤ) (ss : List ℤ) (s : ℤ) → AllFrom low ss → IsSession s ss → low ≤ℤ s
each-from low [] s h i = absurd i
each-from low (x ∷ xs) s h i = elim i [ inl p ↦ subst (λ z. low ≤ℤ z) p h.0 | inr q ↦ each-from low xs s h.1 q ]

least-below : (ss : List ℤ) (d s : ℤ) → IsSession s ss → least_of ss d ≤ℤ s
least-below ss d s h = each-from (least_of ss d) ss s (below_least (least_of ss d) d ss (≤ℤ_refl (least_of ss d))).1 h

min-above : (low x y : ℤ) → low ≤ℤ x → low ≤ℤ y → low ≤ℤ int_min x y
min-above low x y h l = grind (arith, ints, h, l)

least-above : (low d : ℤ) (ss : List ℤ) → low ≤ℤ d → ((s : ℤ) → IsSession s ss → low ≤ℤ s) → low ≤ℤ least_of ss d
least-above low d [] h all = h
least-above low d (x ∷ xs) h all = least-above low (int_min d x) xs (min-above low d x h (all x (inl refl))) (λ s i. all s (inr i))

-- ---- needed terms are used

module _ (p : Pipeline) (checked : IsChecked p) where
  abbrev outs : List ℕ
  outs = outputs p

  ok : IsPipeline p.graph outs
  ok = is-pipeline p checked

  used-listed : (t : ℕ) → Used p.graph outs t → is_used p t ≡ true
  used-listed t h = used_terms-complete p.graph outs ok.graph t (used-inside p.graph outs ok t h) h

  needed-used : (days : List ℤ) (d : ℤ) (t : ℕ) (s : ℤ) → Needs days p.graph outs d t s → is_used p t ≡ true
  needed-used days d t s h = used-listed t (needs-used days p.graph outs d t s h)

  module _ (days : List ℤ) where
    abbrev list : ℤ → List Need
    list d = needs days p.graph outs d

    to-list : (d : ℤ) (t : ℕ) (s : ℤ) → Needs days p.graph outs d t s → IsIn t s (list d)
    to-list d t s h = all-listed days p.graph ok.graph outs d t s h

    of-list : (d : ℤ) (t : ℕ) (s : ℤ) → IsIn t s (list d) → Needs days p.graph outs d t s
    of-list d t s h = listed-are days p.graph ok.graph outs d t s h

    -- the first session of a term is its low
    first-is : (d : ℤ) (t : ℕ) (low : ℤ) → IsLow days p.graph outs d t low → low ≤ℤ d → first_of days p t d ≡ low
    first-is d t low is l =
        le-both (first_of days p t d) low
        (least-below (sessions_of (list d) t) d low (of-term t low (list d) (to-list d t low is.needed)))
        (least-above low d (sessions_of (list d) t) l (λ s i. is.least s (of-list d t s (term-of t s (list d) i))))

    -- a term that is computed so much earlier
    pub too-deep : (from to n : ℕ) → IsDeepest days p from to n → most_extra_rows < n → is_too_deep days p from to ≡ true
    unfolding is_too_deep
    too-deep from to n is deep =
        list_any_at (λ d. int_lt (pos most_extra_rows) (pos d -ℤ first_of_all days p (pos d))) (range_with_len from (to + 1 - from)) (is.session - from) 0
        (let long = length-range_with_len from (to + 1 - from) in let a = is.within in omega arith)
        (let at : get_or (range_with_len from (to + 1 - from)) (is.session - from) 0 ≡ is.session = get_or-range_with_len from (to + 1 - from) (is.session - from) 0 (let a = is.within in omega arith) ∙ (let a = is.within in omega arith) in rw at here)
      where
        here : int_lt (pos most_extra_rows) (pos is.session -ℤ first_of_all days p (pos is.session)) ≡ true
        here =
            let below = least-below (map (λ n. n.session) (list (pos is.session))) (pos is.session) is.low
            (all-of-in is.term is.low (list (pos is.session)) (to-list (pos is.session) is.term is.low is.is_low.needed)) in
            let e = is.is in
            grind (arith, ints, nat_tests)

    module _ (plan : Planned) (is : IsPlanOf days p plan) where
      asked : (t s : ℕ) → is_used p t ≡ true → plan.from ≤ s → s ≤ plan.to → IsAsked plan t s
      asked t s u a b = (is.used t ∙ u, (a, b))

      same : (n : ℕ) → n ≤ n
      same n = omega arith

      pub has-rows : HasRows days p plan
      unfolding extra_of
      has-rows t u =
          let a = asked t plan.from u (same plan.from) is.order in
          let first = first-is (pos plan.from) t (pos (low_at plan t plan.from)) (is.lows.exact t plan.from a) (let f = (is.lows.few t plan.from a).0 in omega (arith, ints)) in
          sym (ap (λ z. int_gap z (pos plan.from)) first)

      enough : (d : ℕ) → plan.from ≤ d → d ≤ plan.to → int_lt (pos most_extra_rows) (pos d -ℤ first_of_all days p (pos d)) ≡ false
      enough d a b =
          let low : (pos d -ℤ pos most_extra_rows) ≤ℤ first_of_all days p (pos d) =
          least-above (pos d -ℤ pos most_extra_rows) (pos d) (map (λ n. n.session) (list (pos d))) (omega (arith, ints)) each in
          grind (arith, ints, nat_tests)
        where
          each : (s : ℤ) → IsSession s (map (λ n. n.session) (list (pos d))) → (pos d -ℤ pos most_extra_rows) ≤ℤ s
          each s i =
              let found = in-of-all s (list (pos d)) i in
              let needs = of-list (pos d) found.0 s found.1 in
              let q = asked found.0 d (needed-used days (pos d) found.0 s needs) a b in
              let low = (is.lows.exact found.0 d q).least s needs in
              let few = is.lows.few found.0 d q in
              omega (arith, ints)

      none-deep : (a n : ℕ) → plan.from ≤ a → a + n ≤ plan.to + 1
          → list_any (λ d. int_lt (pos most_extra_rows) (pos d -ℤ first_of_all days p (pos d))) (range_with_len a n) ≡ false
      none-deep a zero h l = refl
      none-deep a (suc n) h l = rw (enough a h (omega arith)) (none-deep (a + 1) n (omega arith) (omega arith))

      pub not-deep : is_too_deep days p plan.from plan.to ≡ false
      unfolding is_too_deep
      not-deep = none-deep plan.from (plan.to + 1 - plan.from) (same plan.from) (let o = is.order in omega arith)
