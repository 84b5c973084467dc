-- What cones read is kept as it is defined.
use Rattle.std.proofs.Common.{◌≡◌, ◌≢◌, ℕ, suc, ◌+◌, ◌<◌, ◌≤◌, ◌==◌, cond, not, max, Bool, true, false, List, [], ◌∷◌, ◌++◌, length, map, filter, filter_map, flat_map, get_or, Option, Some, None, option_to_list, slice_get, refl, sym, ◌∙◌, ap, subst, arith, append-nil, fold, inl, inr, ◌⊎◌, length-set, get_or-set_same, get_or-set_other}
use Rattle.std.specs.List.{range_with_len, count_by}
use Rattle.std.proofs.lemmas.Bool.{cases_eq, cases_lt, true≢false, or_cases, or_left, or_right, eqb-true, eq-eqb}
use Rattle.std.proofs.lemmas.List.{set_past}
use Rattle.std.proofs.lemmas.List.Sums.{fold-append}
use Rattle.std.proofs.lemmas.List.FromFn.{get_or-map-range_with_len, length-map-range_with_len}
use Rattle.pl_pipeline.specs.Term.{Node, Graph, Input, IsGraph}
use Rattle.pl_pipeline.specs.Term.Input.{BarColumn, TermInput}
use Rattle.pl_pipeline.specs.Graph.{contains, input_number, mentions_at, Used, used_terms, live_terms, columns_at, bound}
use Rattle.pl_pipeline.specs.Cones.{moves_at, masks_at, steady_inputs, cone_depths, cone_terms, border_terms, reads_of}
use Rattle.pl_pipeline.specs.Value.{is_steady}
use Rattle.pl_pipeline.specs.Term.{term_at}
use Rattle.pl_pipeline.proofs.Contained.{in-front, in-back}
use Rattle.pl_laws.proofs.ConeInputs.{in_either}
use Rattle.pl_laws.proofs.ConeLists.{no-cone-at, reads-mentions}
use Rattle.pl_pipeline.specs.NodeValue.{AllReadSteady}
use Rattle.std.proofs.Math.Path.{fun_ext}
use Rattle.std.proofs.lemmas.Option.{slice_get_within, slice_get_past}
use Rattle.pl_terms.specs.declared.node.Node as code
use Rattle.pl_terms.specs.Nodes.{graph_of}
use Rattle.pl_planner.specs.declared.cones.Cone.{Cone}
use Rattle.pl_planner.specs.declared.cones.ConeTerm.{ConeTerm}
use Rattle.pl_planner.specs.declared.uses.Use.{Use}
use Rattle.pl_planner.specs.Cones.{pair_of, pairs_of, cones_of}
use Rattle.pl_planner.proofs.Coned.{cones-long, listed-at}
use Rattle.pl_planner.specs.Steady.{AreSteady}
use Rattle.pl_planner.specs.Columns.{bars_at, columns_with, columns_held, most_held}
use Rattle.pl_planner.specs.Holds.{live_terms_by, later, held, all_held, border_in, border_at, borders_of, all_bordered}
use Rattle.pl_planner.specs.Uses.{unused, use_at, AreUses, AreUsesBy}
use Rattle.pl_planner.proofs.Live.{used_within}

-- ---- one term

pub held-past : (us : List Use) (t by : ℕ) → length us ≤ t → us ≡ held by us t
held-past us t by h = sym (set_past us t (later (use_at us t) by) h)

-- ---- lists of terms

-- what is kept for a list: the rest stays, and what is later is so by the list
pub record Holds (us vs : List Use) (by : ℕ) (list : List ℕ) : Type 0 where
  pub size : length vs ≡ length us
  pub used : (t : ℕ) → (use_at vs t).used ≡ (use_at us t).used
  pub more : (t : ℕ) → (use_at us t).last ≤ (use_at vs t).last
  pub source : (t : ℕ) → ((use_at vs t).last ≡ (use_at us t).last) ⊎ ((contains list t ≡ true) × ((use_at vs t).last ≡ by))
  pub all : (t : ℕ) → contains list t ≡ true → t < length us → by ≤ (use_at vs t).last

max-either : (a b : ℕ) → (max a b ≡ a) ⊎ (max a b ≡ b)
max-either a b = elim (cases_lt a b) [
  | inl l ↦ inr (omega arith)
  | inr l ↦ inl (omega arith)
]

module _ (by : ℕ) where
  abbrev one : List Use → ℕ → List Use
  one us u = held by us u

  at-same : (us : List Use) (u : ℕ) → u < length us → use_at (held by us u) u ≡ later (use_at us u) by
  at-same us u h = get_or-set_same us u (later (use_at us u) by) unused h

  at-other : (us : List Use) (u t : ℕ) → t ≢ u → use_at (held by us u) t ≡ use_at us t
  at-other us u t ne = get_or-set_other us u t (later (use_at us u) by) unused ne

  at-past : (us : List Use) (u : ℕ) → length us ≤ u → use_at (held by us u) u ≡ use_at us u
  at-past us u h = ap (λ l. use_at l u) (sym (held-past us u by h))

  one-used : (us : List Use) (u t : ℕ) → (use_at (held by us u) t).used ≡ (use_at us t).used
  one-used us u t = elim (cases_eq t u) [
    | inl e ↦ elim (cases_lt u (length us)) [
      | inl l ↦ ap (λ i. (use_at (held by us u) i).used) e ∙ ap (λ (x : Use). x.used) (at-same us u l) ∙ ap (λ i. (use_at us i).used) (sym e)
      | inr l ↦ ap (λ i. (use_at (held by us u) i).used) e ∙ ap (λ (x : Use). x.used) (at-past us u l) ∙ ap (λ i. (use_at us i).used) (sym e)
    ]
    | inr ne ↦ ap (λ (x : Use). x.used) (at-other us u t ne)
  ]

  one-more : (us : List Use) (u t : ℕ) → (use_at us t).last ≤ (use_at (held by us u) t).last
  one-more us u t = elim (cases_eq t u) [
    | inl e ↦ elim (cases_lt u (length us)) [
      | inl l ↦ (let s : (use_at (held by us u) t).last ≡ max (use_at us t).last by
          = ap (λ i. (use_at (held by us u) i).last) e ∙ ap (λ (x : Use). x.last) (at-same us u l) ∙ ap (λ i. max (use_at us i).last by) (sym e) in omega arith)
      | inr l ↦ (let s : (use_at (held by us u) t).last ≡ (use_at us t).last
          = ap (λ i. (use_at (held by us u) i).last) e ∙ ap (λ (x : Use). x.last) (at-past us u l) ∙ ap (λ i. (use_at us i).last) (sym e) in omega arith)
    ]
    | inr ne ↦ (let s : (use_at (held by us u) t).last ≡ (use_at us t).last = ap (λ (x : Use). x.last) (at-other us u t ne) in omega arith)
  ]

  one-source : (us : List Use) (u t : ℕ) → ((use_at (held by us u) t).last ≡ (use_at us t).last) ⊎ ((t ≡ u) × ((use_at (held by us u) t).last ≡ by))
  one-source us u t = elim (cases_eq t u) [
    | inl e ↦ elim (cases_lt u (length us)) [
      | inl l ↦ (let s : (use_at (held by us u) t).last ≡ max (use_at us t).last by
          = ap (λ i. (use_at (held by us u) i).last) e ∙ ap (λ (x : Use). x.last) (at-same us u l) ∙ ap (λ i. max (use_at us i).last by) (sym e) in
          elim (max-either (use_at us t).last by) [ inl a ↦ inl (s ∙ a) | inr b ↦ inr (e, s ∙ b) ])
      | inr l ↦ inl (ap (λ i. (use_at (held by us u) i).last) e ∙ ap (λ (x : Use). x.last) (at-past us u l) ∙ ap (λ i. (use_at us i).last) (sym e))
    ]
    | inr ne ↦ inl (ap (λ (x : Use). x.last) (at-other us u t ne))
  ]

  one-all : (us : List Use) (u : ℕ) → u < length us → by ≤ (use_at (held by us u) u).last
  one-all us u h = let s : (use_at (held by us u) u).last ≡ max (use_at us u).last by = ap (λ (x : Use). x.last) (at-same us u h) in omega arith

  one-long : (us : List Use) (u : ℕ) → length (held by us u) ≡ length us
  one-long us u = length-set us u (later (use_at us u) by)

  all-after : (u : ℕ) (list : List ℕ) (us : List Use) → Holds (held by us u) (all_held (held by us u) by list) by list → Holds us (all_held us by (u ∷ list)) by (u ∷ list)
  all-after u list us rest = record {
    size = rest.size ∙ one-long us u;
    used = λ t. rest.used t ∙ one-used us u t;
    more = λ t. (let a = one-more us u t in let b = rest.more t in omega arith);
    source = λ t. elim (rest.source t) [
      | inl a ↦ elim (one-source us u t) [
        | inl b ↦ inl (a ∙ b)
        | inr b ↦ inr (own t (sym b.0), a ∙ b.1)
      ]
      | inr a ↦ inr (or_right (u == t) (contains list t) a.0, a.1)
    ];
    all = λ t h l. elim (or_cases (u == t) (contains list t) h) [
      | inl e ↦ (let same : u ≡ t = eqb-true u t e in let a = rest.more t in
          let b : by ≤ (use_at (held by us u) t).last = subst (λ i. by ≤ (use_at (held by us u) i).last) same (one-all us u (omega arith)) in omega arith)
      | inr i ↦ rest.all t i (let z = one-long us u in omega arith)
    ];
  }
    where
      own : (t : ℕ) → u ≡ t → contains (u ∷ list) t ≡ true
      own t e = or_left (u == t) (contains list t) (eq-eqb u t e)

  pub all-hold : (list : List ℕ) (us : List Use) → Holds us (all_held us by list) by list
  all-hold [] us = record { size = refl; used = λ t. refl; more = λ t. omega arith; source = λ t. inl refl; all = λ t h. absurd (true≢false (sym h)) }
  all-hold (u ∷ list) us = all-after u list us (all-hold list (held by us u))

-- ---- the border of a cone

module _ (g : Graph) (ok : IsGraph g) (steady : List Bool) (are : AreSteady g (length g) steady) where
  not-not : (b : Bool) → not (not b) ≡ b
  not-not true = refl
  not-not false = refl

  same-steady : (is : List Input) → ((i j : ℕ) → slice_get is i ≡ Some (TermInput j) → j < length g)
      → filter (λ u. get_or steady u false) (filter_map input_number is) ≡ filter (λ u. not (moves_at g u)) (filter_map input_number is)
  same-steady [] low = refl
  same-steady (BarColumn c ∷ is) low = same-steady is (λ i. low (suc i))
  same-steady (TermInput u ∷ is) low =
      ap (λ b. cond b (u ∷ filter (λ v. get_or steady v false) (filter_map input_number is)) (filter (λ v. get_or steady v false) (filter_map input_number is)))
      (are u (low 0 u refl) ∙ sym (not-not (is_steady (term_at g u))))
      ∙ ap (λ us. cond (not (moves_at g u)) (u ∷ us) us) (same-steady is (λ i. low (suc i)))

  border-at-is : (u : ℕ) → border_at steady g u ≡ steady_inputs g u ++ masks_at g u
  border-at-is u = here (slice_get g u) refl
    where
      here : (o : Option Node) → slice_get g u ≡ o → border_at steady g u ≡ steady_inputs g u ++ masks_at g u
      here None e = rw e refl
      here (Some n) e =
          let inside : u < length g = slice_get_within g u n e in
          rw e (ap (λ l. l ++ option_to_list n.mask) (same-steady n.inputs (λ i j f. (let l : j < u = (ok.lower u n e).inputs i j f in omega arith))))

  over : (us : List ℕ) → flat_map (border_at steady g) us ≡ flat_map (λ u. steady_inputs g u ++ masks_at g u) us
  over [] = refl
  over (u ∷ us) = ap (λ l. l ++ flat_map (border_at steady g) us) (border-at-is u) ∙ ap (λ l. (steady_inputs g u ++ masks_at g u) ++ l) (over us)

  pub borders-are : (t : ℕ) → borders_of steady g (cone_depths g t) ≡ border_terms g t
  borders-are t = over (cone_terms g t)

pub border-node : (steady : List Bool) (g : Graph) (u : ℕ) (n : Node) → slice_get g u ≡ Some n → border_in steady n ≡ border_at steady g u
border-node steady g u n e = rw e refl

pub border-past : (steady : List Bool) (g : Graph) (u : ℕ) → length g ≤ u → [] ≡ border_at steady g u
border-past steady g u h = let e : slice_get g u ≡ None = slice_get_past g u h in rw e refl

-- cone term after cone term is all at once
pub all-bordered : (steady : List Bool) (g : Graph) (by : ℕ) (cone : List ConeTerm) (us : List Use) → all_bordered steady g by us cone ≡ all_held us by (borders_of steady g (pairs_of cone))
unfolding pairs_of
all-bordered steady g by [] us = refl
all-bordered steady g by (c ∷ cone) us =
    all-bordered steady g by cone (all_held us by (border_at steady g c.term.0))
    ∙ sym (fold-append (held by) us (border_at steady g c.term.0) (borders_of steady g (map pair_of cone)))

-- ---- all terms

module _ (us : List Use) (border : ℕ → List ℕ) where
  -- below k what the used terms' cones read is kept for them
  pub record AreHeld (k : ℕ) (vs : List Use) : Type 0 where
    pub size : length vs ≡ length us
    pub used : (t : ℕ) → (use_at vs t).used ≡ (use_at us t).used
    pub more : (t : ℕ) → (use_at us t).last ≤ (use_at vs t).last
    pub source : (t : ℕ) → ((use_at vs t).last ≡ (use_at us t).last)
        ⊎ ((u : ℕ) × ((use_at us u).used ≡ true) × (contains (border u) t ≡ true) × ((use_at vs t).last ≡ u))
    pub all : (u t : ℕ) → u < k → (use_at us u).used ≡ true → contains (border u) t ≡ true → t < length us → u ≤ (use_at vs t).last

  pub held-begun : AreHeld 0 us
  held-begun = record { size = refl; used = λ t. refl; more = λ t. omega arith; source = λ t. inl refl; all = λ u t l. absurd (omega arith) }

  pub held-next : (k : ℕ) (vs ws : List Use) → AreHeld k vs → (use_at vs k).used ≡ true → Holds vs ws k (border k) → AreHeld (k + 1) ws
  held-next k vs ws so_far used new = record {
    size = new.size ∙ so_far.size;
    used = λ t. new.used t ∙ so_far.used t;
    more = λ t. (let a = so_far.more t in let b = new.more t in omega arith);
    source = λ t. elim (new.source t) [
      | inl a ↦ elim (so_far.source t) [
        | inl b ↦ inl (a ∙ b)
        | inr b ↦ inr (b.0, b.1, b.2, a ∙ b.3)
      ]
      | inr a ↦ inr (k, sym (so_far.used k) ∙ used, a.0, a.1)
    ];
    all = λ u t l h i inside. elim (cases_eq u k) [
      | inl e ↦ (let a = new.all t (ap (λ j. contains (border j) t) (sym e) ∙ i) (let z = so_far.size in omega arith) in omega arith)
      | inr ne ↦ (let a = so_far.all u t (omega arith) h i inside in let b = new.more t in omega arith)
    ];
  }

  pub held-skip : (k : ℕ) (vs : List Use) → AreHeld k vs → (use_at vs k).used ≡ false → AreHeld (k + 1) vs
  held-skip k vs so_far unused = record {
    size = so_far.size;
    used = so_far.used;
    more = so_far.more;
    source = so_far.source;
    all = λ u t l h i inside. elim (cases_eq u k) [
      | inl e ↦ absurd (true≢false (sym h ∙ ap (λ j. (use_at us j).used) e ∙ sym (so_far.used k) ∙ unused))
      | inr ne ↦ so_far.all u t (omega arith) h i inside
    ];
  }

module _ (g : Graph) (ok : IsGraph g) (us vs : List Use) (k : ℕ) (enough : length us ≤ k) (is : AreHeld us (border_terms g) k vs) (outputs : List ℕ) (are : AreUses g outputs us) where
  used-of : (t : ℕ) → (use_at vs t).used ≡ true → Used g outputs t
  used-of t h = (are.used t).0 (sym (is.used t) ∙ h)

  of-used : (t : ℕ) → Used g outputs t → (use_at us t).used ≡ true
  of-used t u = (are.used t).1 u

  mention : (u t : ℕ) → contains (mentions_at g u) t ≡ true → contains (reads_of g u) t ≡ true
  mention u t h = in-front (mentions_at g u) (border_terms g u) t h

  border : (u t : ℕ) → contains (border_terms g u) t ≡ true → contains (reads_of g u) t ≡ true
  border u t h = in-back (mentions_at g u) (border_terms g u) t h

  inside : (t : ℕ) → Used g outputs t → t < length us
  inside t u = let l = used_within g outputs ok are t u in let z = are.size in omega arith

  pub held-ended : AreUsesBy (reads_of g) g outputs vs
  held-ended = record {
    size = is.size ∙ are.size;
    used = λ t. (λ h. used-of t h, λ u. is.used t ∙ of-used t u);
    last = λ t u. (let old = are.last t u in record {
      output = λ o. (let e = old.output o in elim (is.source t) [
        | inl a ↦ a ∙ e
        | inr a ↦ (let w : a.0 < length us = inside a.0 ((are.used a.0).0 a.1) in let m = is.more t in let z = are.size in let s : (use_at vs t).last ≡ a.0 = a.3 in absurd (omega arith))
      ]);
      reader = λ o. (let r = old.reader o in elim (is.source t) [
        | inl a ↦ subst (λ l. Used g outputs l × (contains (reads_of g l) t ≡ true)) (sym a) (r.0, mention (use_at us t).last t r.1)
        | inr a ↦ subst (λ l. Used g outputs l × (contains (reads_of g l) t ≡ true)) (sym a.3) ((are.used a.0).0 a.1, border a.0 t a.2)
      ]);
      most = λ v used h. elim (in_either (mentions_at g v) (border_terms g v) t h) [
        | inl i ↦ (let a = old.most v used i in let m = is.more t in omega arith)
        | inr i ↦ (let w = inside v used in is.all v t (omega arith) (of-used v used) i (inside t u))
      ];
    });
  }

-- ---- the pass over all terms

module _ (g : Graph) (ok : IsGraph g) (steady : List Bool) (are : AreSteady g (length g) steady) (us : List Use) where
  pub held-step : (k : ℕ) (vs ws : List Use) (cone : List ConeTerm) → AreHeld us (border_terms g) k vs → pairs_of cone ≡ cone_depths g k
      → ws ≡ cond (use_at vs k).used (all_bordered steady g k vs cone) vs → AreHeld us (border_terms g) (k + 1) ws
  held-step k vs ws cone so_far is e = here (use_at vs k).used refl
    where
      list : borders_of steady g (pairs_of cone) ≡ border_terms g k
      list = ap (borders_of steady g) is ∙ borders-are g ok steady are k

      new : Holds vs (all_held vs k (border_terms g k)) k (border_terms g k)
      new = all-hold k (border_terms g k) vs

      here : (b : Bool) → (use_at vs k).used ≡ b → AreHeld us (border_terms g) (k + 1) ws
      here true f =
          let whole : ws ≡ all_held vs k (border_terms g k)
          = e ∙ ap (λ b. cond b (all_bordered steady g k vs cone) vs) f ∙ all-bordered steady g k cone vs ∙ ap (all_held vs k) list in
          subst (AreHeld us (border_terms g) (k + 1)) (sym whole) (held-next us (border_terms g) k vs (all_held vs k (border_terms g k)) so_far f new)
      here false f =
          let same : ws ≡ vs = e ∙ ap (λ b. cond b (all_bordered steady g k vs cone) vs) f in
          subst (AreHeld us (border_terms g) (k + 1)) (sym same) (held-skip us (border_terms g) k vs so_far f)

-- the cone of a number among those of the code
pub listed-cone : (g : Graph) (n k : ℕ) (cs : List Cone) (x : Cone) → cones_of cs ≡ map (cone_depths g) (range_with_len 0 n) → k < length cs → x ≡ get_or cs k x → pairs_of x.terms.items ≡ cone_depths g k
listed-cone g n k cs x is h e =
    let long : length cs ≡ n = sym (cones-long cs) ∙ ap (λ l. length l) is ∙ length-map-range_with_len (cone_depths g) 0 n in
    listed-at cs k x h e ∙ ap (λ l. get_or l k []) is ∙ get_or-map-range_with_len (cone_depths g) 0 n k k [] (omega arith) (let z : 0 + k ≡ k = omega arith in z)

-- ---- where windows hold what is steady

pub reads-same : (g : Graph) → AllReadSteady g → reads_of g ≡ mentions_at g
reads-same g steady = fun_ext (λ t. reads-mentions g steady t)

pub kept-read : (ns ms : List code.Node) → ns ≡ ms → (outputs : List ℕ) (us vs : List Use)
    → ((outs : List ℕ) → AreUses (graph_of ns) outs us → AreUsesBy (reads_of (graph_of ns)) (graph_of ns) outs vs) → AreUses (graph_of ms) outputs us → AreUsesBy (reads_of (graph_of ms)) (graph_of ms) outputs vs
kept-read ns ms e outputs us vs h are =
    subst (λ l. AreUses (graph_of l) outputs us → AreUsesBy (reads_of (graph_of l)) (graph_of l) outputs vs) e (h outputs) are

no-more-bars : (g : Graph) (t : ℕ) → columns_with g t [] ≡ columns_at g t
no-more-bars g t = ap (λ bs. count_by (contains bs) (0 ∷ 1 ∷ 2 ∷ 3 ∷ 4 ∷ [])) (append-nil (bars_at g t)) ∙ here (slice_get g t) refl
  where
    here : (o : Option Node) → slice_get g t ≡ o → count_by (contains (bars_at g t)) (0 ∷ 1 ∷ 2 ∷ 3 ∷ 4 ∷ []) ≡ columns_at g t
    here None e = rw e refl
    here (Some n) e = rw e refl

pub columns-same : (g : Graph) → AllReadSteady g → (t : ℕ) → columns_held g t ≡ columns_at g t
columns-same g steady t = ap (columns_with g t) (no-cone-at g steady t) ∙ no-more-bars g t

pub most-bound : (g : Graph) (outputs : List ℕ) → AllReadSteady g → most_held g outputs ≡ bound g outputs
most-bound g outputs steady =
    ap (λ f. fold max 0 (map f (used_terms g outputs)))
    (fun_ext (λ k. ap (λ by. length (live_terms_by by g outputs k) + columns_held g k) (reads-same g steady) ∙ ap (λ n. length (live_terms g outputs k) + n) (columns-same g steady k)))

pub most-listed : (ns ms : List code.Node) → ns ≡ ms → (outputs : List ℕ) (us vs : List Use) (n : ℕ) → vs ≡ us
    → ((outs : List ℕ) → AreUsesBy (reads_of (graph_of ns)) (graph_of ns) outs vs → n ≡ most_held (graph_of ns) outs)
    → AreUsesBy (reads_of (graph_of ms)) (graph_of ms) outputs us → n ≡ most_held (graph_of ms) outputs
most-listed ns ms e outputs us vs n f h are =
    subst (λ l. AreUsesBy (reads_of (graph_of l)) (graph_of l) outputs vs → n ≡ most_held (graph_of l) outputs) e (h outputs)
    (subst (AreUsesBy (reads_of (graph_of ms)) (graph_of ms) outputs) (sym f) are)
