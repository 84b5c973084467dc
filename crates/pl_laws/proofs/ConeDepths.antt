-- The computed depths of a cone are the greatest.
use Rattle.std.proofs.Common.{◌≡◌, ℕ, zero, suc, ◌+◌, ◌-◌, ◌<◌, ◌≤◌, Bool, true, false, cond, max, List, [], ◌∷◌, ◌++◌, map, Option, Some, None, refl, sym, ◌∙◌, ap, subst, arith, inl, inr, ◌⊎◌, slice_get, ◌==◌}
use Rattle.std.proofs.lemmas.Bool.{or_cases, or_left, or_right, eqb-true, eq-eqb, true≢false, cases_eq, cases_lt}
use Rattle.pl_pipeline.specs.Term.{Node, Graph, IsGraph}
use Rattle.pl_pipeline.specs.Graph.{contains}
use Rattle.pl_pipeline.specs.Cones.{is_windowed, Follows, windowed_at, moving_inputs, larger, mark, window_at, marks_of, entry, more_marks, depths_below, cone_depths, HasDepth as Has}
use Rattle.pl_laws.proofs.ConeInputs.{moving-listed, listed-moving, input-lower, cone-lower}

-- ---- lists of marks

has-front : (u m : ℕ) (ps qs : List (ℕ × ℕ)) → Has u m ps → Has u m (ps ++ qs)
has-front u m (p ∷ ps) qs (inl e) = inl e
has-front u m (p ∷ ps) qs (inr h) = inr (has-front u m ps qs h)
has-front u m [] qs h = absurd h

has-back : (u m : ℕ) (ps qs : List (ℕ × ℕ)) → Has u m qs → Has u m (ps ++ qs)
has-back u m [] qs h = h
has-back u m (p ∷ ps) qs h = inr (has-back u m ps qs h)

has-either : (u m : ℕ) (ps qs : List (ℕ × ℕ)) → Has u m (ps ++ qs) → Has u m ps ⊎ Has u m qs
has-either u m [] qs h = inr h
has-either u m (p ∷ ps) qs (inl e) = inl (inl e)
has-either u m (p ∷ ps) qs (inr h) = elim (has-either u m ps qs h) [ inl i ↦ inl (inr i) | inr i ↦ inr i ]

max-either : (k n : ℕ) → (max k n ≡ k) ⊎ (max k n ≡ n)
max-either k n = elim (cases_lt k n) [
  | inl l ↦ inr (omega arith)
  | inr l ↦ inl (omega arith)
]

max-left : (k n : ℕ) → k ≤ max k n
max-left k n = omega arith

max-right : (k n : ℕ) → n ≤ max k n
max-right k n = omega arith

-- the mark of a term is one of its marks
mark-has : (u : ℕ) (ps : List (ℕ × ℕ)) (m : ℕ) → mark u ps ≡ Some m → Has u m ps
mark-has u [] m e = cc
mark-has u (p ∷ ps) m e = here (p.0 == u) refl e (mark u ps) refl (mark-has u ps)
  where
    some-is : (x y : ℕ) → Some x ≡ Some y → x ≡ y
    some-is x y e = cc

    first-is : (x : ℕ) → p.0 ≡ u → p.1 ≡ x → p ≡ (u, x)
    first-is x a b = ap (λ c. (c, p.1)) a ∙ ap (λ c. (u, c)) b

    of-larger : (k m : ℕ) (o : Option ℕ) → larger k o ≡ m → (k ≡ m) ⊎ (o ≡ Some m)
    of-larger k m None e = inl e
    of-larger k m (Some n) e = elim (max-either k n) [
      | inl f ↦ inl (sym f ∙ e)
      | inr f ↦ inr (ap Some (sym f ∙ e))
    ]

    here : (b : Bool) → (p.0 == u) ≡ b → cond b (Some (larger p.1 (mark u ps))) (mark u ps) ≡ Some m → (o : Option ℕ) → mark u ps ≡ o
        → ((k : ℕ) → mark u ps ≡ Some k → Has u k ps) → Has u m (p ∷ ps)
    here true f i o g more = elim (of-larger p.1 m (mark u ps) (some-is (larger p.1 (mark u ps)) m i)) [
      | inl a ↦ inl (first-is m (eqb-true p.0 u f) a)
      | inr a ↦ inr (more m a)
    ]
    here false f i o g more = inr (more m i)

-- and no mark of the term is greater
has-mark : (u : ℕ) (ps : List (ℕ × ℕ)) (k : ℕ) → Has u k ps → (m : ℕ) × (mark u ps ≡ Some m) × (k ≤ m)
has-mark u [] k h = absurd h
has-mark u (p ∷ ps) k (inl e) =
    let own : (p.0 == u) ≡ true = eq-eqb p.0 u (ap (λ (q : ℕ × ℕ). q.0) e) in
    let is : p.1 ≡ k = ap (λ (q : ℕ × ℕ). q.1) e in
    here (mark u ps) own is
  where
    least : (o : Option ℕ) → p.1 ≡ k → k ≤ larger p.1 o
    least None is = omega arith
    least (Some n) is = let l = max-left p.1 n in omega (arith, l)

    here : (o : Option ℕ) → (p.0 == u) ≡ true → p.1 ≡ k → (m : ℕ) × (cond (p.0 == u) (Some (larger p.1 o)) o ≡ Some m) × (k ≤ m)
    here o own is = (larger p.1 o, rw own refl, least o is)
has-mark u (p ∷ ps) k (inr h) =
    let rest = has-mark u ps k h in here (p.0 == u) rest.0 rest.1 rest.2
  where
    here : (b : Bool) (m : ℕ) → mark u ps ≡ Some m → k ≤ m → (q : ℕ) × (cond b (Some (larger p.1 (mark u ps))) (mark u ps) ≡ Some q) × (k ≤ q)
    here true m e l = (max p.1 m, rw e refl, (let r = max-right p.1 m in omega (arith, l, r)))
    here false m e l = (m, e, l)

-- ---- marks of a node

has-marks : (us : List ℕ) (x u m : ℕ) → Has u m (map (λ v. (v, x)) us) → (contains us u ≡ true) × (m ≡ x)
has-marks [] x u m h = absurd h
has-marks (v ∷ us) x u m (inl e) =
    (or_left (v == u) (contains us u) (eq-eqb v u (ap (λ (q : ℕ × ℕ). q.0) e)), sym (ap (λ (q : ℕ × ℕ). q.1) e))
has-marks (v ∷ us) x u m (inr h) = let r = has-marks us x u m h in (or_right (v == u) (contains us u) r.0, r.1)

marks-has : (us : List ℕ) (x u : ℕ) → contains us u ≡ true → Has u x (map (λ v. (v, x)) us)
marks-has [] x u h = absurd (true≢false (sym h))
marks-has (v ∷ us) x u h = elim (or_cases (v == u) (contains us u) h) [
  | inl e ↦ inl (ap (λ w. (w, x)) (eqb-true v u e))
  | inr e ↦ inr (marks-has us x u e)
]

module _ (g : Graph) (ok : IsGraph g) (t : ℕ) where
  window_is : (v : ℕ) (n : Node) → slice_get g v ≡ Some n → window_at g v ≡ n.window
  window_is v n e = rw e refl

  -- how a term of the cone leads on
  on_from : (v k u : ℕ) → Follows g t v k → contains (moving_inputs g v) u ≡ true → Follows g t u (k + (window_at g v - 1))
  on_from v k u f h =
      let r = listed-moving g ok v u h in
      let same : window_at g v ≡ r.0.0.window = window_is v r.0.0 r.0.2 in
      rw same (Follows.through v k r.0.0 r.0.1 f r.0.2 r.0.3 r.1)

  abbrev firsts : List (ℕ × ℕ)
  firsts = cond (windowed_at g t) (marks_of g t 0) []

  first-follows : (u m : ℕ) → Has u m firsts → Follows g t u m
  first-follows u m h = by_window (windowed_at g t) refl h
    where
      windowed_node : (n : Node) → slice_get g t ≡ Some n → windowed_at g t ≡ true → is_windowed n.kind ≡ true
      windowed_node n e w = rw e at w

      by_window : (b : Bool) → windowed_at g t ≡ b → Has u m (cond b (marks_of g t 0) []) → Follows g t u m
      by_window false w i = absurd i
      by_window true w i =
          let is = has-marks (moving_inputs g t) (0 + (window_at g t - 1)) u m i in
          let r = listed-moving g ok t u is.0 in
          let same : window_at g t ≡ r.0.0.window = window_is t r.0.0 r.0.2 in
          let value : m ≡ r.0.0.window - 1 = is.1 ∙ ap (λ x. 0 + (x - 1)) same ∙ none_more (r.0.0.window - 1) in
          subst (Follows g t u) (sym value) (Follows.input r.0.0 r.0.1 r.0.2 (windowed_node r.0.0 r.0.2 w) r.0.3 r.1)
        where
          none_more : (x : ℕ) → 0 + x ≡ x
          none_more x = omega arith

  -- ---- what is listed is read so

  AllFollow : List (ℕ × ℕ) → Type 0
  AllFollow marks = (u m : ℕ) → Has u m marks → Follows g t u m

  more-follow : (n : ℕ) (marks : List (ℕ × ℕ)) → AllFollow marks → AllFollow (marks ++ more_marks g n (mark n marks))
  unfolding AllFollow
  more-follow n marks all u m h = elim (has-either u m marks (more_marks g n (mark n marks)) h) [
    | inl i ↦ all u m i
    | inr i ↦ here (mark n marks) refl i
  ]
    where
      here : (o : Option ℕ) → mark n marks ≡ o → Has u m (more_marks g n o) → Follows g t u m
      here None e i = absurd i
      here (Some k) e i =
          let is = has-marks (moving_inputs g n) (k + (window_at g n - 1)) u m i in
          subst (Follows g t u) (sym is.1) (on_from n k u (all n k (mark-has n marks k e)) is.0)

  sound : (n : ℕ) (marks : List (ℕ × ℕ)) → AllFollow marks → AllFollow (depths_below g n marks)
  unfolding AllFollow
  sound zero marks all u m h = absurd h
  sound (suc n) marks all u m h =
      elim (has-either u m (depths_below g n (marks ++ more_marks g n (mark n marks))) (entry n (mark n marks)) h) [
        | inl i ↦ sound n (marks ++ more_marks g n (mark n marks)) (more-follow n marks all) u m i
        | inr i ↦ here (mark n marks) refl i
      ]
    where
      here : (o : Option ℕ) → mark n marks ≡ o → Has u m (entry n o) → Follows g t u m
      here None e i = absurd i
      here (Some k) e (inl f) =
          let own : Follows g t n k = all n k (mark-has n marks k e) in
          subst (λ (q : ℕ × ℕ). Follows g t q.0 q.1) f own
      here (Some k) e (inr f) = absurd f

  pub depths-sound : (u m : ℕ) → Has u m (cone_depths g t) → Follows g t u m
  unfolding AllFollow
  depths-sound u m h = sound t firsts first-follows u m h

  -- ---- and the greatest so

  record Marked (n : ℕ) (marks : List (ℕ × ℕ)) : Type 0 where
    first : (u m : ℕ) → Has u m firsts → Has u m marks
    next : (v k u : ℕ) → n ≤ v → Follows g t v k → contains (moving_inputs g v) u ≡ true → (x : ℕ) × Has u x marks × (k + (window_at g v - 1) ≤ x)

  -- a term of the cone has a mark that is as great, once the terms above it are done
  marked_here : (n : ℕ) (marks : List (ℕ × ℕ)) → Marked (suc n) marks → (k : ℕ) → Follows g t n k → (m : ℕ) × (mark n marks ≡ Some m) × (k ≤ m)
  marked_here n marks is k (Follows.input q i e w at h) =
      let own : windowed_at g t ≡ true = rw e w in
      let listed : contains (moving_inputs g t) n ≡ true = moving-listed g ok t n (q, i, e, at) h in
      let size : window_at g t ≡ q.window = rw e refl in
      let has : Has n (0 + (window_at g t - 1)) firsts = rw own (marks-has (moving_inputs g t) (0 + (window_at g t - 1)) n listed) in
      let r = has-mark n marks (0 + (window_at g t - 1)) (is.first n _ has) in
      let least : 0 + (window_at g t - 1) ≤ r.0 = r.2 in
      (r.0, r.1, omega (arith, size, least))
  marked_here n marks is k (Follows.through v j q i f e at h) =
      let lower : n < v = input-lower g ok v n (q, i, e, at) in
      let size : window_at g v ≡ q.window = rw e refl in
      let x = is.next v j n (omega arith) f (moving-listed g ok v n (q, i, e, at) h) in
      let r = has-mark n marks x.0 x.1 in
      let first : j + (window_at g v - 1) ≤ x.0 = x.2 in
      let least : x.0 ≤ r.0 = r.2 in
      (r.0, r.1, omega (arith, size, first, least))

  marked_more : (n : ℕ) (marks : List (ℕ × ℕ)) → Marked (suc n) marks → Marked n (marks ++ more_marks g n (mark n marks))
  marked_more n marks is = record {
    first = λ u m h. has-front u m marks (more_marks g n (mark n marks)) (is.first u m h);
    next = λ v k u l f h. elim (cases_eq n v) [
      | inl e ↦ own v k u f h e
      | inr e ↦ (let x = is.next v k u (omega arith) f h in (x.0, has-front u x.0 marks (more_marks g n (mark n marks)) x.1, x.2))
    ];
  }
    where
      own : (v k u : ℕ) → Follows g t v k → contains (moving_inputs g v) u ≡ true → n ≡ v
          → (x : ℕ) × Has u x (marks ++ more_marks g n (mark n marks)) × (k + (window_at g v - 1) ≤ x)
      own v k u f h e =
          let here : Follows g t n k = subst (λ q. Follows g t q k) (sym e) f in
          let listed : contains (moving_inputs g n) u ≡ true = ap (λ q. contains (moving_inputs g q) u) e ∙ h in
          let r = marked_here n marks is k here in
          let more : more_marks g n (mark n marks) ≡ marks_of g n r.0 = rw r.1 refl in
          let has : Has u (r.0 + (window_at g n - 1)) (marks ++ more_marks g n (mark n marks))
          = rw more (has-back u _ marks (marks_of g n r.0) (marks-has (moving_inputs g n) (r.0 + (window_at g n - 1)) u listed)) in
          let size : window_at g n ≡ window_at g v = ap (window_at g) e in
          let least : k ≤ r.0 = r.2 in
          (r.0 + (window_at g n - 1), has, omega (arith, size, least))

  complete : (n : ℕ) (marks : List (ℕ × ℕ)) → Marked n marks → (u k : ℕ) → u < n → Follows g t u k → (m : ℕ) × Has u m (depths_below g n marks) × (k ≤ m)
  complete zero marks is u k l f = absurd (omega arith)
  complete (suc n) marks is u k l f = elim (cases_eq u n) [
    | inl e ↦ own e
    | inr e ↦ (let r = complete n (marks ++ more_marks g n (mark n marks)) (marked_more n marks is) u k (omega arith) f in
        (r.0, has-front u r.0 (depths_below g n (marks ++ more_marks g n (mark n marks))) (entry n (mark n marks)) r.1, r.2))
  ]
    where
      own : u ≡ n → (m : ℕ) × Has u m (depths_below g n (marks ++ more_marks g n (mark n marks)) ++ entry n (mark n marks)) × (k ≤ m)
      own e =
          let here : Follows g t n k = subst (λ q. Follows g t q k) e f in
          let r = marked_here n marks is k here in
          let listed : entry n (mark n marks) ≡ (n, r.0) ∷ [] = rw r.1 refl in
          let has : Has u r.0 (entry n (mark n marks)) = rw listed (inl (ap (λ q. (q, r.0)) (sym e))) in
          (r.0, has-back u r.0 (depths_below g n (marks ++ more_marks g n (mark n marks))) (entry n (mark n marks)) has, r.2)

  pub depths-greatest : (u k : ℕ) → Follows g t u k → (m : ℕ) × Has u m (cone_depths g t) × (k ≤ m)
  depths-greatest u k f =
      complete t firsts
      (record { first = λ v m h. h; next = λ v j x l q h. (let lower : v < t = cone-lower g ok t v j q in absurd (omega arith)) })
      u k (cone-lower g ok t u k f) f

  -- ---- each term once

  entry-is : (n u m : ℕ) (o : Option ℕ) → Has u m (entry n o) → (u ≡ n) × (o ≡ Some m)
  entry-is n u m None h = absurd h
  entry-is n u m (Some k) (inl e) = (sym (ap (λ (q : ℕ × ℕ). q.0) e), ap (λ (q : ℕ × ℕ). Some q.1) e)
  entry-is n u m (Some k) (inr h) = absurd h

  listed-below : (n : ℕ) (marks : List (ℕ × ℕ)) (u m : ℕ) → Has u m (depths_below g n marks) → u < n
  listed-below zero marks u m h = absurd h
  listed-below (suc n) marks u m h =
      elim (has-either u m (depths_below g n (marks ++ more_marks g n (mark n marks))) (entry n (mark n marks)) h) [
        | inl i ↦ (let l : u < n = listed-below n (marks ++ more_marks g n (mark n marks)) u m i in omega (arith, l))
        | inr i ↦ (let e : u ≡ n = (entry-is n u m (mark n marks) i).0 in omega (arith, e))
      ]

  once : (n : ℕ) (marks : List (ℕ × ℕ)) (u m k : ℕ) → Has u m (depths_below g n marks) → Has u k (depths_below g n marks) → m ≡ k
  once zero marks u m k h i = absurd h
  once (suc n) marks u m k h i =
      both (has-either u m (depths_below g n (marks ++ more_marks g n (mark n marks))) (entry n (mark n marks)) h)
      (has-either u k (depths_below g n (marks ++ more_marks g n (mark n marks))) (entry n (mark n marks)) i)
      (λ p q. once n (marks ++ more_marks g n (mark n marks)) u m k p q)
    where
      some-is : (x y : ℕ) → Some x ≡ Some y → x ≡ y
      some-is x y e = cc

      both : Has u m (depths_below g n (marks ++ more_marks g n (mark n marks))) ⊎ Has u m (entry n (mark n marks))
          → Has u k (depths_below g n (marks ++ more_marks g n (mark n marks))) ⊎ Has u k (entry n (mark n marks))
          → (Has u m (depths_below g n (marks ++ more_marks g n (mark n marks))) → Has u k (depths_below g n (marks ++ more_marks g n (mark n marks))) → m ≡ k) → m ≡ k
      both (inl p) (inl q) more = more p q
      both (inl p) (inr q) more =
          let l : u < n = listed-below n (marks ++ more_marks g n (mark n marks)) u m p in
          let e : u ≡ n = (entry-is n u k (mark n marks) q).0 in absurd (omega arith)
      both (inr p) (inl q) more =
          let l : u < n = listed-below n (marks ++ more_marks g n (mark n marks)) u k q in
          let e : u ≡ n = (entry-is n u m (mark n marks) p).0 in absurd (omega arith)
      both (inr p) (inr q) more = some-is m k (sym (entry-is n u m (mark n marks) p).1 ∙ (entry-is n u k (mark n marks) q).1)

  pub depths-once : (u m k : ℕ) → Has u m (cone_depths g t) → Has u k (cone_depths g t) → m ≡ k
  depths-once u m k h i = once t firsts u m k h i
