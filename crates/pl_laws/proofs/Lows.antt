-- How far back terms are computed.
use Rattle.std.proofs.Common.{◌≡◌, ◌==◌, ℕ, zero, suc, ◌-◌, ◌<◌, ◌≤◌, true, ℤ, pos, ◌<ℤ◌, ◌≤ℤ◌, List, [], ◌∷◌, length, map, filter_map, get_or, AllPairs, Option, Some, None, ◌⊎◌, inl, inr, refl, sym, ◌∙◌, ap, arith, slice_get}
use Rattle.std.specs.List.{list_any}
use Rattle.std.proofs.lemmas.Bool.{eqb-true, or_cases, true≢false}
use Rattle.std.specs.Int.{int_min}
use Rattle.std.proofs.lemmas.Int.{ints, int_min_is}
use Rattle.std.proofs.lemmas.List.Sums.{passes_at_first}
use Rattle.std.proofs.lemmas.Option.{slice_get-get_or, slice_get_within}
use Rattle.std.specs.Int.Signed.{≤ℤ_refl}
use Rattle.pl_spec.specs.declared.Frequency.{Frequency}
use Rattle.pl_spec.specs.Periods.{period, same_period, first_session, period_start}
use Rattle.pl_pipeline.specs.Kind.{Kind}
use Rattle.pl_pipeline.specs.Kind.Kind.{Downsample}
use Rattle.pl_spec.specs.Window.{before, downward}
use Rattle.pl_pipeline.specs.Term.{Term, Input, Node, Graph, input_tree, number_tree, tree_over, trees, term_at, IsGraph}
use Rattle.pl_pipeline.specs.Term.Term.{absent, column, node}
use Rattle.pl_pipeline.specs.Graph.{least_of, part_reach, reads_at, reach}
use Rattle.pl_pipeline.specs.Graph.{contains}
use Rattle.pl_pipeline.specs.Term.Input.{BarColumn, TermInput}
use Rattle.pl_spec.specs.declared.Column.{Column}
use Rattle.pl_pipeline.specs.Lows.{Reads, Needs, least_reach}
use Rattle.pl_laws.specs.LowLaws.{bar_from, own_from, LowsCover, ReachCovers, StartsAreFirst, ReachesRise}
use Rattle.pl_laws.proofs.Starts.{first_within, start-within}
use Rattle.pl_laws.proofs.Rises.{start-rises}
use Rattle.pl_laws.proofs.Reaches.{AllFrom, below_least, at_downward}
use Rattle.pl_pipeline.proofs.Trees.{term_at-node}
use Rattle.pl_pipeline.proofs.Unfolds.{stands}
use Rattle.pl_spec.proofs.Signed.{int_eq-true, eq-int_eq, int_eq-itself, le-both, min-rises, min-either}
use Rattle.pl_spec.proofs.Windows.{before-zero}

-- ---- the first session of a period

start-is : (f : Frequency) (days : List ℤ) (d : ℕ) (day : ℤ) → slice_get days d ≡ Some day → period_start f days (pos d) ≡ pos (first_session f days day)
unfolding period_start
start-is f days d day e = rw e refl

pub starts-first : StartsAreFirst
starts-first = record {
  within = start-within;
  start = λ f days d day e.
      let here : first_session f days day ≤ d = first_within (same_period f day) days d day e (int_eq-itself (period f day)) in
      let there = slice_get_within days d day e in (
        first_session f days day,
        get_or_first f days day,
        start-is f days d day e,
        slice_get-get_or days (first_session f days day) (pos 0) (omega (arith, here, there)),
        sym (int_eq-true _ _ (passes_at_first (same_period f day) days (pos 0) (omega (arith, here, there)))),
      );
  least = λ f days d i day x e at_i same.
      let l : first_session f days day ≤ i = first_within (same_period f day) days i x at_i (eq-int_eq _ _ (sym same)) in
      rw (start-is f days d day e) (omega (arith, ints));
  rises = start-rises;
}
  where
    get_or_first : Frequency → List ℤ → ℤ → ℤ
    get_or_first f days day = get_or days (first_session f days day) (pos 0)

-- ---- the reach

-- so many sessions, each no later than that of the other list
AreEarlier : List ℤ → List ℤ → Type 0
AreEarlier [] [] = Unit {0}
AreEarlier [] (y ∷ ys) = ⊥
AreEarlier (x ∷ xs) [] = ⊥
AreEarlier (x ∷ xs) (y ∷ ys) = (x ≤ℤ y) × AreEarlier xs ys

least-rises : (xs ys : List ℤ) (d e : ℤ) → AreEarlier xs ys → d ≤ℤ e → least_of xs d ≤ℤ least_of ys e
unfolding AreEarlier
least-rises [] [] d e all h = h
least-rises [] (y ∷ ys) d e all h = absurd all
least-rises (x ∷ xs) [] d e all h = absurd all
least-rises (x ∷ xs) (y ∷ ys) d e all h = least-rises xs ys (int_min d x) (int_min e y) all.1 (min-rises d e x y h all.0)

windows-rise : (f : ℤ → ℤ) → ((d e : ℤ) → d ≤ℤ e → f d ≤ℤ f e) → (d e : ℤ) → d ≤ℤ e → (size : ℕ) → AreEarlier (map (λ i. f (before d i)) (downward size)) (map (λ i. f (before e i)) (downward size))
unfolding AreEarlier
windows-rise f up d e h zero = tt
windows-rise f up d e h (suc size) = (up (before d size) (before e size) (omega (arith, ints)), windows-rise f up d e h size)

part-rises : (t : Term) (f : ℤ → ℤ) → ((d e : ℤ) → d ≤ℤ e → f d ≤ℤ f e) → (size : ℕ) (d e : ℤ) → d ≤ℤ e → part_reach t f size d ≤ℤ part_reach t f size e
part-rises absent f up size d e h = h
part-rises (column c) f up size d e h = omega (arith, ints)
part-rises (node k n x y z m g) f up size d e h = least-rises _ _ d e (windows-rise f up d e h size) h

-- the reaches of a node's places
abbrev pub reaches_of : List ℤ → Kind → ℕ → Term → Term → Term → Term → Term → ℤ → List ℤ
reaches_of days k size x y z m g d =
    part_reach x (reach days x) size (reads_at days k d) ∷ part_reach y (reach days y) size (reads_at days k d) ∷ part_reach z (reach days z) size (reads_at days k d)
    ∷ part_reach m (reach days m) 1 d ∷ part_reach g (reach days g) 1 d ∷ []

module _ (days : List ℤ) (rise : AllPairs (λ a b. a <ℤ b) days) where
  pub reads_at-rises : (k : Kind) (d e : ℤ) → d ≤ℤ e → reads_at days k d ≤ℤ reads_at days k e
  reads_at-rises (Downsample f) d e h = start-rises f days rise d e h
  reads_at-rises k d e h = h

  pub reach-rises : (t : Term) (d e : ℤ) → d ≤ℤ e → reach days t d ≤ℤ reach days t e
  unfolding reach AreEarlier
  reach-rises absent d e h = h
  reach-rises (column c) d e h = h
  reach-rises (node k size x y z m g) d e h =
      let r : reads_at days k d ≤ℤ reads_at days k e = reads_at-rises k d e h in
      least-rises (reaches_of days k size x y z m g d) (reaches_of days k size x y z m g e) d e (
        part-rises x (reach days x) (reach-rises x) size _ _ r,
        (
          part-rises y (reach days y) (reach-rises y) size _ _ r,
          (
            part-rises z (reach days z) (reach-rises z) size _ _ r,
            (part-rises m (reach days m) (reach-rises m) 1 d e h, (part-rises g (reach days g) (reach-rises g) 1 d e h, tt)),
          ),
        ),
      ) h

reach-within : (days : List ℤ) (t : Term) (d : ℤ) → reach days t d ≤ℤ d
unfolding reach
reach-within days absent d = omega (arith, ints)
reach-within days (column c) d = omega (arith, ints)
reach-within days (node k size x y z m g) d = (below_least (reach days (node k size x y z m g) d) d (reaches_of days k size x y z m g d) (≤ℤ_refl (reach days (node k size x y z m g) d))).0

pub reaches-rise : ReachesRise
reaches-rise = record { within = reach-within; rises = reach-rises }

-- ---- what is computed

-- for a later session of the node no earlier one is read
pub reads-rise : (days : List ℤ) → AllPairs (λ a b. a <ℤ b) days → (n : Node) (s e : ℤ) (t : ℕ) (r : ℤ) → s ≤ℤ e → Reads days n e t r → (q : ℤ) × Reads days n s t q × (q ≤ℤ r)
reads-rise days rise n s e t r h (Reads.input i at) =
    let up : reads_at days n.kind s ≤ℤ reads_at days n.kind e = reads_at-rises days rise n.kind s e h in
    (before (reads_at days n.kind s) (n.window - 1), Reads.input i at, omega (arith, ints, up))
reads-rise days rise n s e t r h (Reads.mask at) = (s, Reads.mask at, h)
reads-rise days rise n s e t r h (Reads.group at) = (s, Reads.group at, h)

pub lows-cover : LowsCover
lows-cover days rise g outputs from u t n low_u low_t s r is_u is_t at_u h reads =
    let first = reads-rise days rise n low_u s t r h reads in
    let low : low_t ≤ℤ first.0 = is_t.least first.0 (Needs.read u n low_u is_u.needed at_u first.1) in
    let l : first.0 ≤ℤ r = first.2 in omega (arith, ints, low, l)

-- ---- the least reach

among : (low : ℤ) (f : ℕ → ℤ) (ks : List ℕ) → AllFrom low (map f ks) → (k : ℕ) → contains ks k ≡ true → low ≤ℤ f k
among low f [] all k e = absurd (true≢false (sym e))
among low f (j ∷ ks) all k e = elim (or_cases (j == k) (list_any (λ x. x == k) ks) e) [
  | inl here ↦ let same : j ≡ k = eqb-true j k here in rw same at all.0
  | inr there ↦ among low f ks all.1 k there
]

-- those of a node of a graph
abbrev pub reaches_at : List ℤ → Graph → Node → ℤ → List ℤ
reaches_at days g n s =
    reaches_of days n.kind n.window (input_tree (trees g) (slice_get n.inputs 0)) (input_tree (trees g) (slice_get n.inputs 1))
    (input_tree (trees g) (slice_get n.inputs 2)) (number_tree (trees g) n.mask) (number_tree (trees g) n.group) s

-- a node reaches no later than what it reads
pub places : (days : List ℤ) (g : Graph) → IsGraph g → (u : ℕ) (n : Node) (s low : ℤ) → slice_get g u ≡ Some n → low ≤ℤ reach days (term_at g u) s
    → (low ≤ℤ s) × AllFrom low (reaches_at days g n s)
unfolding reach
places days g ok u n s low at h = below_least low s (reaches_at days g n s) (rw (term_at-node g u n ok at) at h)

module _ (days : List ℤ) (g : Graph) (ok : IsGraph g) (wide : (k : ℕ) (n : Node) → slice_get g k ≡ Some n → 1 ≤ n.window) where
  place : (u : ℕ) (n : Node) (s low : ℤ) → slice_get g u ≡ Some n → low ≤ℤ reach days (term_at g u) s → (i : ℕ) → i < 3
      → low ≤ℤ part_reach (input_tree (trees g) (slice_get n.inputs i)) (reach days (input_tree (trees g) (slice_get n.inputs i))) n.window (reads_at days n.kind s)
  place u n s low at h zero l = (places days g ok u n s low at h).1.0
  place u n s low at h (suc zero) l = (places days g ok u n s low at h).1.1.0
  place u n s low at h (suc (suc zero)) l = (places days g ok u n s low at h).1.1.1.0
  place u n s low at h (suc (suc (suc i))) l = absurd (omega arith)

  node_over : (k : Kind) (m : ℕ) (x y z p q : Term) (size : ℕ) (s low : ℤ) → 1 ≤ size → low ≤ℤ part_reach (node k m x y z p q) (reach days (node k m x y z p q)) size s
      → low ≤ℤ reach days (node k m x y z p q) (before s (size - 1))
  node_over k m x y z p q size s low some h =
      at_downward low (λ i. reach days (node k m x y z p q) (before s i)) size (below_least low s _ h).1 (size - 1) (omega arith)

  -- a term of the graph is a node, so its place reaches over a window
  over : (t : ℕ) → t < length g → (size : ℕ) (s low : ℤ) → 1 ≤ size → low ≤ℤ part_reach (term_at g t) (reach days (term_at g t)) size s
      → low ≤ℤ reach days (term_at g t) (before s (size - 1))
  over t l size s low some h =
      let m = stands g t l in
      let same : term_at g t ≡ tree_over (trees g) m.0 = term_at-node g t m.0 ok m.1 in
      let h' = rw same at h in
      rw same (node_over m.0.kind m.0.window _ _ _ _ _ size s low some h')

  read-later : (u t : ℕ) (n : Node) (s r low : ℤ) → slice_get g u ≡ Some n → Reads days n s t r → low ≤ℤ reach days (term_at g u) s → low ≤ℤ reach days (term_at g t) r
  read-later u t n s r low at (Reads.input i at_i) h =
      let few : length n.inputs ≤ 3 = ok.few u n at in
      let inside : i < length n.inputs = slice_get_within n.inputs i _ at_i in
      let lower : t < u = (ok.lower u n at).inputs i t at_i in
      let there : u < length g = slice_get_within g u n at in
      let p = rw at_i at (place u n s low at h i (omega arith)) in
      over t (omega arith) n.window (reads_at days n.kind s) low (wide u n at) p
  read-later u t n s r low at (Reads.mask at_m) h =
      let lower : t < u = (ok.lower u n at).mask t at_m in
      let there : u < length g = slice_get_within g u n at in
      let p = rw at_m at (places days g ok u n s low at h).1.1.1.1.0 in
      let q : low ≤ℤ reach days (term_at g t) (before s 0) = over t (omega arith) 1 s low (omega arith) p in
      rw (before-zero s) at q
  read-later u t n s r low at (Reads.group at_p) h =
      let lower : t < u = (ok.lower u n at).group t at_p in
      let there : u < length g = slice_get_within g u n at in
      let p = rw at_p at (places days g ok u n s low at h).1.1.1.1.1.0 in
      let q : low ≤ℤ reach days (term_at g t) (before s 0) = over t (omega arith) 1 s low (omega arith) p in
      rw (before-zero s) at q

  module _ (outputs : List ℕ) (from : ℤ) where
    covered : (t : ℕ) (s : ℤ) → Needs days g outputs from t s → least_reach days g outputs from ≤ℤ reach days (term_at g t) s
    covered t s (Needs.output e) =
        among (least_reach days g outputs from) (λ k. reach days (term_at g k) from) outputs
        (below_least (least_reach days g outputs from) from (map (λ k. reach days (term_at g k) from) outputs) (≤ℤ_refl (least_reach days g outputs from))).1 t e
    covered t r (Needs.read u n s needs at reads) = read-later u t n s r (least_reach days g outputs from) at reads (covered u s needs)

    pub reach-covers : ReachCovers days g outputs from
    reach-covers = record {
      sessions = λ t s needs.
          let one : least_reach days g outputs from ≤ℤ reach days (term_at g t) s = covered t s needs in
          let two : reach days (term_at g t) s ≤ℤ s = reach-within days (term_at g t) s in between one two;
      terms = covered;
      bars = λ t n s needs at bar.
          let few : length n.inputs ≤ 3 = ok.few t n at in
          let inside : bar.0 < length n.inputs = slice_get_within n.inputs bar.0 _ bar.2 in
          rw bar.2 at (place t n s (least_reach days g outputs from) at (covered t s needs) bar.0 (omega (arith, few, inside)));
    }
      where
        between : {a b c : ℤ} → a ≤ℤ b → b ≤ℤ c → a ≤ℤ c
        between h l = omega (arith, ints)

-- ---- and it is met

-- one of the list
Among : ℤ → List ℤ → Type 0
Among r [] = ⊥
Among r (x ∷ xs) = (r ≡ x) ⊎ Among r xs

least_among : (xs : List ℤ) (d : ℤ) → (least_of xs d ≡ d) ⊎ Among (least_of xs d) xs
unfolding Among
least_among [] d = inl refl
least_among (x ∷ xs) d = elim (least_among xs (int_min d x)) [
  | inr there ↦ inr (inr there)
  | inl here ↦ elim (min-either d x) [
    | inl e ↦ inl (here ∙ e)
    | inr e ↦ inr (inl (here ∙ e))
  ]
]

among_later : (f : ℤ → ℤ) → ((d e : ℤ) → d ≤ℤ e → f d ≤ℤ f e) → (s : ℤ) (m n : ℕ) (r : ℤ) → n ≤ suc m → Among r (map (λ i. f (before s i)) (downward n)) → f (before s m) ≤ℤ r
unfolding Among
among_later f up s m zero r h all = absurd all
among_later f up s m (suc n) r h (inl here) = let l : f (before s m) ≤ℤ f (before s n) = up (before s m) (before s n) (omega (arith, ints)) in rw here l
among_later f up s m (suc n) r h (inr there) = among_later f up s m n r (omega arith) there

-- a window's least reach is that of its first session
window_least : (f : ℤ → ℤ) → ((d e : ℤ) → d ≤ℤ e → f d ≤ℤ f e) → (s : ℤ) (size : ℕ) → Among (least_of (map (λ i. f (before s i)) (downward (suc size))) s) (map (λ i. f (before s i)) (downward (suc size)))
    → least_of (map (λ i. f (before s i)) (downward (suc size))) s ≡ f (before s size)
window_least f up s size all =
    le-both _ _
    (below_least (least_of (map (λ i. f (before s i)) (downward (suc size))) s) s (map (λ i. f (before s i)) (downward (suc size))) (≤ℤ_refl (least_of (map (λ i. f (before s i)) (downward (suc size))) s))).1.0
    (among_later f up s size (suc size) (least_of (map (λ i. f (before s i)) (downward (suc size))) s) (omega arith) all)

-- ---- what a node itself reads

pub least_above : (low d : ℤ) (xs : List ℤ) → low ≤ℤ d → AllFrom low xs → low ≤ℤ least_of xs d
least_above low d [] h all = h
least_above low d (x ∷ xs) h all = least_above low (int_min d x) xs (grind (arith, ints, int_min_is d x, h, all.0)) all.1

bars_above : (low s : ℤ) (size : ℕ) (inputs : List Input) → ((i : ℕ) (c : Column) → slice_get inputs i ≡ Some (BarColumn c) → low ≤ℤ before s size) → AllFrom low (filter_map (bar_from size s) inputs)
bars_above low s size [] h = tt
bars_above low s size (BarColumn c ∷ xs) h = (h 0 c refl, bars_above low s size xs (λ i c e. h (suc i) c e))
bars_above low s size (TermInput k ∷ xs) h = bars_above low s size xs (λ i c e. h (suc i) c e)

bar_in : (low s : ℤ) (size : ℕ) (inputs : List Input) → AllFrom low (filter_map (bar_from size s) inputs) → (i : ℕ) (c : Column) → slice_get inputs i ≡ Some (BarColumn c) → low ≤ℤ before s size
bar_in low s size [] all i c e = absurd (gone e)
  where
    gone : slice_get [] i ≡ Some (BarColumn c) → ⊥
    gone e = cc
bar_in low s size (BarColumn k ∷ xs) all zero c e = all.0
bar_in low s size (BarColumn k ∷ xs) all (suc i) c e = bar_in low s size xs all.1 i c e
bar_in low s size (TermInput k ∷ xs) all zero c e = absurd (no e)
  where
    no : Some (TermInput k) ≡ Some (BarColumn c) → ⊥
    no e = cc
bar_in low s size (TermInput k ∷ xs) all (suc i) c e = bar_in low s size xs all i c e

part_within : (x : Term) (f : ℤ → ℤ) (size : ℕ) (s low : ℤ) → low ≤ℤ part_reach x f size s → low ≤ℤ s
part_within absent f size s low h = h
part_within (column c) f size s low h = omega (arith, ints)
part_within (node k n x y z m g) f size s low h = (below_least low s (map (λ i. f (before s i)) (downward size)) h).0

pub reads_at-within : (days : List ℤ) (k : Kind) (d : ℤ) → reads_at days k d ≤ℤ d
reads_at-within days (Downsample f) d = start-within f days d
reads_at-within days k d = ≤ℤ_refl d

module _ (days : List ℤ) (rise : AllPairs (λ a b. a <ℤ b) days) (g : Graph) (ok : IsGraph g) (wide : (k : ℕ) (n : Node) → slice_get g k ≡ Some n → 1 ≤ n.window) (outputs : List ℕ) (from : ℤ) where
  abbrev reach_of : ℕ → ℤ → ℤ
  reach_of t s = reach days (term_at g t) s

  abbrev Met : ℤ → Type 0
  Met r = (u : ℕ) × (n : Node) × (q : ℤ) × Needs days g outputs from u q × (slice_get g u ≡ Some n) × (own_from days n q ≡ r)

  node_least : (k : Kind) (m : ℕ) (x y z p q : Term) (size : ℕ) (s : ℤ)
      → (part_reach (node k m x y z p q) (reach days (node k m x y z p q)) (suc size) s ≡ s) ⊎ (part_reach (node k m x y z p q) (reach days (node k m x y z p q)) (suc size) s ≡ reach days (node k m x y z p q) (before s size))
  node_least k m x y z p q size s = elim (least_among (map (λ i. reach days (node k m x y z p q) (before s i)) (downward (suc size))) s) [
    | inl e ↦ inl e
    | inr all ↦ inr (window_least (reach days (node k m x y z p q)) (reach-rises days rise (node k m x y z p q)) s size all)
  ]

  over_least : (u : ℕ) → u < length g → (size : ℕ) (s : ℤ) → 1 ≤ size
      → (part_reach (term_at g u) (reach days (term_at g u)) size s ≡ s) ⊎ (part_reach (term_at g u) (reach days (term_at g u)) size s ≡ reach_of u (before s (size - 1)))
  over_least u l zero s some = absurd (omega arith)
  over_least u l (suc size) s some =
      let m = stands g u l in
      let last : suc size - 1 ≡ size = omega arith in rw (last, term_at-node g u m.0 ok m.1) (node_least m.0.kind m.0.window _ _ _ _ _ size s)

  module _ (t : ℕ) (n : Node) (s : ℤ) (at : slice_get g t ≡ Some n) where
    abbrev start : ℤ
    start = reads_at days n.kind s

    abbrev bars : List ℤ
    bars = filter_map (bar_from n.window start) n.inputs

    before_three : (i : ℕ) (x : Input) → slice_get n.inputs i ≡ Some x → i < 3
    before_three i x e = let few : length n.inputs ≤ 3 = ok.few t n at in let inside : i < length n.inputs = slice_get_within n.inputs i x e in omega arith

    by_start : reach_of t s ≤ℤ start
    by_start =
        part_within (input_tree (trees g) (slice_get n.inputs 0)) (reach days (input_tree (trees g) (slice_get n.inputs 0))) n.window start (reach_of t s)
        (place days g ok wide t n s (reach_of t s) at (≤ℤ_refl (reach_of t s)) 0 (omega arith))

    own_above : reach_of t s ≤ℤ own_from days n s
    own_above =
        least_above (reach_of t s) start bars by_start
        (bars_above (reach_of t s) start n.window n.inputs (λ i c e. rw e at (place days g ok wide t n s (reach_of t s) at (≤ℤ_refl (reach_of t s)) i (before_three i (BarColumn c) e))))

    own_below : (own_from days n s ≤ℤ start) × AllFrom (own_from days n s) bars
    own_below = below_least (own_from days n s) start bars (≤ℤ_refl (own_from days n s))

    module _ (needs : Needs days g outputs from t s) (lower : (u : ℕ) (q : ℤ) → u < t → Needs days g outputs from u q → Met (reach_of u q)) where
      of_own : own_from days n s ≤ℤ reach_of t s → Met (reach_of t s)
      of_own h = (t, n, s, needs, at, le-both (own_from days n s) (reach_of t s) h own_above)

      of_start : start ≤ℤ reach_of t s → Met (reach_of t s)
      of_start h = of_own (let l : own_from days n s ≤ℤ start = own_below.0 in omega (arith, ints, h, l))

      of_other : (u : ℕ) (q : ℤ) → u < t → Needs days g outputs from u q → reach_of t s ≡ reach_of u q → Met (reach_of t s)
      of_other u q l needs_u e = rw e (lower u q l needs_u)

      is_at_least : {a b : ℤ} → a ≡ b → b ≤ℤ a
      is_at_least e = omega (arith, ints)

      of_place : (i : ℕ) (o : Option Input) → slice_get n.inputs i ≡ o → reach_of t s ≡ part_reach (input_tree (trees g) o) (reach days (input_tree (trees g) o)) n.window start → Met (reach_of t s)
      of_place i None e r = of_start (is_at_least r)
      of_place i (Some (BarColumn c)) e r =
          of_own (let l : own_from days n s ≤ℤ before start n.window = bar_in (own_from days n s) start n.window n.inputs own_below.1 i c e in rw r l)
      of_place i (Some (TermInput u)) e r =
          let low : u < t = (ok.lower t n at).inputs i u e in
          let there : t < length g = slice_get_within g t n at in
          elim (over_least u (omega arith) n.window start (wide t n at)) [
            | inl here ↦ of_start (is_at_least (r ∙ here))
            | inr other ↦ of_other u (before start (n.window - 1)) low (Needs.read t n s needs at (Reads.input i e)) (r ∙ other)
          ]

      of_number : (o : Option ℕ) → ((u : ℕ) → o ≡ Some u → (u < t) × Needs days g outputs from u s) → reach_of t s ≡ part_reach (number_tree (trees g) o) (reach days (number_tree (trees g) o)) 1 s → Met (reach_of t s)
      of_number None h r = of_start (let l : s ≤ℤ reach_of t s = is_at_least r in let m : start ≤ℤ s = reads_at-within days n.kind s in omega (arith, ints, l, m))
      of_number (Some u) h r =
          let low : u < t = (h u refl).0 in
          let there : t < length g = slice_get_within g t n at in
          elim (over_least u (omega arith) 1 s (omega arith)) [
            | inl here ↦ of_start (let l : s ≤ℤ reach_of t s = is_at_least (r ∙ here) in let m : start ≤ℤ s = reads_at-within days n.kind s in omega (arith, ints, l, m))
            | inr other ↦ of_other u s low (h u refl).1 (r ∙ other ∙ ap (reach_of u) (before-zero s))
          ]

      reach-is : reach_of t s ≡ least_of (reaches_at days g n s) s
      unfolding reach
      reach-is = rw (term_at-node g t n ok at) refl

      node_met : Met (reach_of t s)
      unfolding Among
      node_met = elim (least_among (reaches_at days g n s) s) [
        | inl e ↦ of_start (let l : s ≤ℤ reach_of t s = is_at_least (reach-is ∙ e) in let m : start ≤ℤ s = reads_at-within days n.kind s in omega (arith, ints, l, m))
        | inr (inl e) ↦ of_place 0 (slice_get n.inputs 0) refl (reach-is ∙ e)
        | inr (inr (inl e)) ↦ of_place 1 (slice_get n.inputs 1) refl (reach-is ∙ e)
        | inr (inr (inr (inl e))) ↦ of_place 2 (slice_get n.inputs 2) refl (reach-is ∙ e)
        | inr (inr (inr (inr (inl e)))) ↦ of_number n.mask (λ u f. ((ok.lower t n at).mask u f, Needs.read t n s needs at (Reads.mask f))) (reach-is ∙ e)
        | inr (inr (inr (inr (inr (inl e))))) ↦ of_number n.group (λ u f. ((ok.lower t n at).group u f, Needs.read t n s needs at (Reads.group f))) (reach-is ∙ e)
        | inr (inr (inr (inr (inr (inr none))))) ↦ absurd none
      ]

  meet : (k t : ℕ) (s : ℤ) → t < k → t < length g → Needs days g outputs from t s → Met (reach_of t s)
  meet zero t s h l needs = absurd (omega arith)
  meet (suc k) t s h l needs = let n = stands g t l in node_met t n.0 s n.1 needs (λ u q lower needs_u. meet k u q (omega arith) (omega arith) needs_u)

  pub reaches-meet : (t : ℕ) (s : ℤ) → t < length g → Needs days g outputs from t s → Met (reach_of t s)
  reaches-meet t s l needs = meet (suc t) t s (omega arith) l needs
