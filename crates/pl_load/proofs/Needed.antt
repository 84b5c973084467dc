-- The list of needed sessions has exactly those that the definition needs.
use Rattle.std.proofs.Common.{◌≡◌, ◌⊎◌, inl, inr, ℕ, zero, suc, ◌<◌, ◌≤◌, ◌-◌, ◌==◌, Bool, true, false, ℤ, List, [], ◌∷◌, ◌++◌, length, map, flat_map, filter_map, option_to_list, Option, Some, None, slice_get, refl, sym, ◌∙◌, ap, subst, arith}
use Rattle.std.proofs.lemmas.Bool.{or_cases, or_left, or_right, eqb-true, eq-eqb, true≢false, cases_lt}
use Rattle.std.proofs.lemmas.Option.{slice_get_past}
use Rattle.pl_spec.specs.Window.{before}
use Rattle.pl_pipeline.specs.Term.{Node, Graph, IsGraph}
use Rattle.pl_pipeline.specs.Graph.{contains, input_number, reads_at}
use Rattle.pl_pipeline.specs.Lows.{Reads, Needs}
use Rattle.pl_pipeline.proofs.Contained.{input-in, option-in, in-front as among-first, in-back}
use Rattle.pl_planner.proofs.Mentions.{in-number, option-is, read-lower}
use Rattle.pl_load.specs.Planning.{Need, all_on, node_reads, sessions_of, needs_below, needs}

-- ---- members

abbrev pub IsIn : ℕ → ℤ → List Need → Type 0
IsIn t s [] = ⊥
IsIn t s (n ∷ ns) = ((n.term ≡ t) × (n.session ≡ s)) ⊎ IsIn t s ns

abbrev pub IsSession : ℤ → List ℤ → Type 0
IsSession s [] = ⊥
IsSession s (x ∷ xs) = (x ≡ s) ⊎ IsSession s xs

in-front : (t : ℕ) (s : ℤ) (xs ys : List Need) → IsIn t s xs → IsIn t s (xs ++ ys)
in-front t s [] ys h = absurd h
in-front t s (x ∷ xs) ys h = elim h [ inl p ↦ inl p | inr q ↦ inr (in-front t s xs ys q) ]

in-behind : (t : ℕ) (s : ℤ) (xs ys : List Need) → IsIn t s ys → IsIn t s (xs ++ ys)
in-behind t s [] ys h = h
in-behind t s (x ∷ xs) ys h = inr (in-behind t s xs ys h)

in-either : (t : ℕ) (s : ℤ) (xs ys : List Need) → IsIn t s (xs ++ ys) → IsIn t s xs ⊎ IsIn t s ys
in-either t s [] ys h = inr h
in-either t s (x ∷ xs) ys h = elim h [
  | inl p ↦ inl (inl p)
  | inr q ↦ elim (in-either t s xs ys q) [ inl a ↦ inl (inr a) | inr b ↦ inr b ]
]

on-all : (t : ℕ) (s : ℤ) (ts : List ℕ) → contains ts t ≡ true → IsIn t s (all_on s ts)
on-all t s [] h = absurd (true≢false (sym h))
on-all t s (u ∷ ts) h = elim (or_cases (u == t) (contains ts t) h) [ inl e ↦ inl (eqb-true u t e, refl) | inr f ↦ inr (on-all t s ts f) ]

all-on : (t : ℕ) (r s : ℤ) (ts : List ℕ) → IsIn t r (all_on s ts) → (contains ts t ≡ true) × (s ≡ r)
all-on t r s [] h = absurd h
all-on t r s (u ∷ ts) h = elim h [
  | inl p ↦ (or_left (u == t) (contains ts t) (eq-eqb u t p.0), p.1)
  | inr q ↦ (let r = all-on t r s ts q in (or_right (u == t) (contains ts t) r.0, r.1))
]

-- ---- the sessions of a term

pub of-term : (t : ℕ) (s : ℤ) (ns : List Need) → IsIn t s ns → IsSession s (sessions_of ns t)
of-term t s [] h = absurd h
of-term t s (n ∷ ns) h = here (n.term == t) refl h (of-term t s ns)
  where
    here : (b : Bool) → (n.term == t) ≡ b → ((n.term ≡ t) × (n.session ≡ s)) ⊎ IsIn t s ns → (IsIn t s ns → IsSession s (sessions_of ns t)) → IsSession s (sessions_of (n ∷ ns) t)
    here true e h more = rw e (elim h [ inl p ↦ inl p.1 | inr q ↦ inr (more q) ])
    here false e h more = rw e (elim h [ inl p ↦ absurd (true≢false (sym (eq-eqb n.term t p.0) ∙ e)) | inr q ↦ more q ])

pub term-of : (t : ℕ) (s : ℤ) (ns : List Need) → IsSession s (sessions_of ns t) → IsIn t s ns
term-of t s [] h = absurd h
term-of t s (n ∷ ns) h = here (n.term == t) refl h (term-of t s ns)
  where
    here : (b : Bool) → (n.term == t) ≡ b → IsSession s (sessions_of (n ∷ ns) t) → (IsSession s (sessions_of ns t) → IsIn t s ns) → IsIn t s (n ∷ ns)
    here true e h more = (let f = rw e at h in elim f [ inl p ↦ inl (eqb-true n.term t e, p) | inr q ↦ inr (more q) ])
    here false e h more = (let f = rw e at h in inr (more f))

-- some term has a session that is among all
pub in-of-all : (s : ℤ) (ns : List Need) → IsSession s (map (λ n. n.session) ns) → (t : ℕ) × IsIn t s ns
in-of-all s [] h = absurd h
in-of-all s (n ∷ ns) h = elim h [ inl p ↦ (n.term, inl (refl, p)) | inr q ↦ (let r = in-of-all s ns q in (r.0, inr r.1)) ]

pub all-of-in : (t : ℕ) (s : ℤ) (ns : List Need) → IsIn t s ns → IsSession s (map (λ n. n.session) ns)
all-of-in t s [] h = absurd h
all-of-in t s (n ∷ ns) h = elim h [ inl p ↦ inl p.1 | inr q ↦ inr (all-of-in t s ns q) ]

-- ---- what is read for sessions

flat-in : (f : ℤ → List Need) (t : ℕ) (r s : ℤ) (ss : List ℤ) → IsSession s ss → IsIn t r (f s) → IsIn t r (flat_map f ss)
flat-in f t r s [] h k = absurd h
flat-in f t r s (x ∷ xs) h k = elim h [
  | inl p ↦ in-front t r (f x) (flat_map f xs) (rw p k)
  | inr q ↦ in-behind t r (f x) (flat_map f xs) (flat-in f t r s xs q k)
]

in-flat : (f : ℤ → List Need) (t : ℕ) (r : ℤ) (ss : List ℤ) → IsIn t r (flat_map f ss) → (s : ℤ) × (IsSession s ss × IsIn t r (f s))
in-flat f t r [] h = absurd h
in-flat f t r (x ∷ xs) h = elim (in-either t r (f x) (flat_map f xs) h) [
  | inl p ↦ (x, (inl refl, p))
  | inr q ↦ (let i = in-flat f t r xs q in (i.0, (inr i.1.0, i.1.1)))
]

-- of two optional terms
abbrev both : Option ℕ → Option ℕ → List ℕ
both m g = option_to_list m ++ option_to_list g

mask-in : (m g : Option ℕ) (t : ℕ) → m ≡ Some t → contains (both m g) t ≡ true
mask-in m g t e = among-first (option_to_list m) (option_to_list g) t (option-in m t e)

group-in : (m g : Option ℕ) (t : ℕ) → g ≡ Some t → contains (both m g) t ≡ true
group-in m g t e = in-back (option_to_list m) (option_to_list g) t (option-in g t e)

in-both : (m g : Option ℕ) (t : ℕ) → contains (both m g) t ≡ true → (m ≡ Some t) ⊎ (g ≡ Some t)
in-both None g t h = inr (option-is g t h)
in-both (Some u) g t h = elim (or_cases (u == t) (contains (option_to_list g) t) h) [ inl e ↦ inl (ap (λ j. Some j) (eqb-true u t e)) | inr f ↦ inr (option-is g t f) ]

module _ (days : List ℤ) (n : Node) (s : ℤ) where
  abbrev inputs : List ℕ
  inputs = filter_map input_number n.inputs

  abbrev start : ℤ
  start = before (reads_at days n.kind s) (n.window - 1)

  read-in : (t : ℕ) (r : ℤ) → Reads days n s t r → IsIn t r (node_reads days (Some n) s)
  read-in t r (Reads.input i e) = in-front t start (all_on start inputs) (all_on s (both n.mask n.group)) (on-all t start inputs (input-in n.inputs i t e))
  read-in t r (Reads.mask e) = in-behind t s (all_on start inputs) (all_on s (both n.mask n.group)) (on-all t s (both n.mask n.group) (mask-in n.mask n.group t e))
  read-in t r (Reads.group e) = in-behind t s (all_on start inputs) (all_on s (both n.mask n.group)) (on-all t s (both n.mask n.group) (group-in n.mask n.group t e))

  in-read : (t : ℕ) (r : ℤ) → IsIn t r (node_reads days (Some n) s) → Reads days n s t r
  in-read t r h = elim (in-either t r (all_on start inputs) (all_on s (both n.mask n.group)) h) [
    | inl p ↦ (let a = all-on t r start inputs p in let i = in-number n.inputs t a.0 in subst (Reads days n s t) a.1 (Reads.input i.0 i.1))
    | inr q ↦ (let a = all-on t r s (both n.mask n.group) q in
        elim (in-both n.mask n.group t a.0) [ inl m ↦ subst (Reads days n s t) a.1 (Reads.mask m) | inr g ↦ subst (Reads days n s t) a.1 (Reads.group g) ])
  ]

-- ---- the whole list

module _ (days : List ℤ) (g : Graph) where
  abbrev added : ℕ → List Need → List Need
  added n list = flat_map (node_reads days (slice_get g n)) (sessions_of list n)

  record Added (n t : ℕ) (r : ℤ) (list : List Need) : Type 0 where
    at : Node
    is : slice_get g n ≡ Some at
    session : ℤ
    user : IsIn n session list
    reads : Reads days at session t r

  in-added : (n t : ℕ) (r : ℤ) (list : List Need) → IsIn t r (added n list) → Added n t r list
  in-added n t r list h = (let i = in-flat (node_reads days (slice_get g n)) t r (sessions_of list n) h in by (slice_get g n) refl i.0 i.1.0 i.1.1)
    where
      by : (o : Option Node) → slice_get g n ≡ o → (s : ℤ) → IsSession s (sessions_of list n) → IsIn t r (node_reads days (slice_get g n) s) → Added n t r list
      by None e s a b = absurd (let f = rw e at b in f)
      by (Some m) e s a b = record { at = m; is = e; session = s; user = term-of n s list a; reads = in-read days m s t r (rw e at b) }

  kept : (n : ℕ) (list : List Need) (t : ℕ) (s : ℤ) → IsIn t s list → IsIn t s (needs_below days g n list)
  kept zero list t s h = h
  kept (suc n) list t s h = kept n (list ++ added n list) t s (in-front t s list (added n list) h)

  -- whatever holds of these and of what is read for them, holds of all
  only : (P : ℕ → ℤ → Type 0) → ((u t : ℕ) (s r : ℤ) (m : Node) → P u s → slice_get g u ≡ Some m → Reads days m s t r → P t r)
      → (n : ℕ) (list : List Need) → ((t : ℕ) (s : ℤ) → IsIn t s list → P t s) → (t : ℕ) (s : ℤ) → IsIn t s (needs_below days g n list) → P t s
  only P more zero list all t s h = all t s h
  only P more (suc n) list all t s h = only P more n (list ++ added n list) (λ u r k. elim (in-either u r list (added n list) k) [
    | inl p ↦ all u r p
    | inr q ↦ (let a = in-added n u r list q in more n u a.session r a.at (all n a.session a.user) a.is a.reads)
  ]) t s h

  module _ (ok : IsGraph g) where
    -- what was added is of lower terms
    before-added : (n : ℕ) (list : List Need) (t : ℕ) (s : ℤ) → n ≤ t → IsIn t s (needs_below days g n list) → IsIn t s list
    before-added zero list t s l h = h
    before-added (suc n) list t s l h = elim (in-either t s list (added n list) (before-added n (list ++ added n list) t s (omega arith) h)) [
      | inl p ↦ p
      | inr q ↦ (let a = in-added n t s list q in let low : t < n = read-lower days a.at a.session n t s (ok.lower n a.at a.is) a.reads in absurd (omega arith))
    ]

    closed : (n : ℕ) (list : List Need) (u t : ℕ) (s r : ℤ) (m : Node) → u < n → IsIn u s (needs_below days g n list) → slice_get g u ≡ Some m → Reads days m s t r
        → IsIn t r (needs_below days g n list)
    closed zero list u t s r m l h e k = absurd (omega arith)
    closed (suc n) list u t s r m l h e k = elim (cases_lt u n) [
      | inl below ↦ closed n (list ++ added n list) u t s r m below h e k
      | inr last ↦ last-one (omega arith)
    ]
      where
        last-one : u ≡ n → IsIn t r (needs_below days g (suc n) list)
        last-one same =
            let there : IsIn u s list = elim (in-either u s list (added n list) (before-added n (list ++ added n list) u s (omega arith) h)) [
              | inl p ↦ p
              | inr q ↦ (let a = in-added n u s list q in let low : u < n = read-lower days a.at a.session n u s (ok.lower n a.at a.is) a.reads in absurd (omega arith))
            ] in
            let here : IsIn n s list = subst (λ v. IsIn v s list) same there in
            let at : slice_get g n ≡ Some m = subst (λ v. slice_get g v ≡ Some m) same e in
            kept n (list ++ added n list) t r (in-behind t r list (added n list)
            (flat-in (node_reads days (slice_get g n)) t r s (sessions_of list n) (of-term n s list here) (rw at (read-in days m s t r k))))

    module _ (outs : List ℕ) (d : ℤ) where
      pub all-listed : (t : ℕ) (s : ℤ) → Needs days g outs d t s → IsIn t s (needs days g outs d)
      unfolding needs
      all-listed t s (Needs.output h) = kept (length g) (all_on d outs) t d (on-all t d outs h)
      all-listed t s (Needs.read u m r k e reads) = within (cases_lt u (length g)) (all-listed u r k)
        where
          within : (u < length g) ⊎ (length g ≤ u) → IsIn u r (needs_below days g (length g) (all_on d outs)) → IsIn t s (needs_below days g (length g) (all_on d outs))
          within w before = elim w [
            | inl l ↦ closed (length g) (all_on d outs) u t r s m l before e reads
            | inr past ↦ (let none : slice_get g u ≡ None = slice_get_past g u past in absurd (cc))
          ]

      pub listed-are : (t : ℕ) (s : ℤ) → IsIn t s (needs days g outs d) → Needs days g outs d t s
      unfolding needs
      listed-are t s h = only (λ u r. Needs days g outs d u r) (λ u v r q m k e reads. Needs.read u m r k e reads) (length g) (all_on d outs)
          (λ u r k. (let a = all-on u r d outs k in subst (Needs days g outs d u) a.1 (Needs.output a.0))) t s h
