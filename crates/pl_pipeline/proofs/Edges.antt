-- The points between the least value and the greatest, and the bins between them.
use Rattle.std.proofs.Common.{◌≡◌, ℕ, zero, suc, ◌+◌, ◌-◌, ◌*◌, ◌/◌, ◌<◌, ◌≤◌, ◌↔◌, Bool, true, false, ◌&&◌, cond, ℤ, pos, ◌+ℤ◌, ◌*ℤ◌, ◌<ℤ◌, ◌≤ℤ◌, List, [], ◌∷◌, length, refl, sym, ◌∙◌, ap, subst, arith, inl, inr}
use Rattle.std.specs.List.{Contains, count_by, range_with_len}
use Rattle.std.specs.Int.RustNames.{int_lt, int_le}
use Rattle.std.specs.Ordering.{int_eq}
use Rattle.std.proofs.lemmas.Bool.{cases_lt}
use Rattle.std.proofs.lemmas.Int.{ints, by_lt_z}
use Rattle.std.proofs.lemmas.List.Sums.{count_by-le-length}
use Rattle.std.proofs.lemmas.Nat.{mul-le, div-mul-add}
use Rattle.std.proofs.Math.Nat.{div-mul-le_self, lt-div-mul-add}
use Rattle.std.proofs.lemmas.List.FromFn.{length-range_with_len}
use Rattle.pl_spec.specs.Cells.{truth}
use Rattle.pl_pipeline.specs.Kind.CrossKind.{PercentileBetween}
use Rattle.pl_pipeline.specs.Cross.{Entry, values, bin_of, is_percentile_between, cross}
use Rattle.pl_pipeline.specs.Order.{count_less, count_equal, value_at, edge}
use Rattle.pl_pipeline.specs.CrossFacts.{edge_of}
use Rattle.pl_pipeline.proofs.Bins.{times-le, bins-few}
use Rattle.pl_spec.proofs.Counts.{count-cons, count-fewer}
use Rattle.pl_spec.proofs.Members.{In, contains-in}
use Rattle.pl_pipeline.proofs.SortedValues.{at_most-below, value_at-counted, value_at-le}
use Rattle.pl_spec.proofs.Signed.{le-int_le}

-- ---- edges

-- the point r / n of the way from the value at place i to the next
abbrev pub between : List ℤ → ℕ → ℕ → ℕ → ℤ
between vs n i r = (value_at vs i *ℤ pos (n - r)) +ℤ (value_at vs (i + 1) *ℤ pos r)

pub edge-between : (vs : List ℤ) (n i r : ℕ) → r < n → edge vs (i * n + r) n ≡ between vs n i r
edge-between vs n i r h =
    let whole : (i * n + r) / n ≡ i = div-mul-add i n r h in
    let rest : (i * n + r) - (i * n + r) / n * n ≡ r = ap (λ k. (i * n + r) - k * n) whole ∙ omega arith in
    ap (λ k. (value_at vs ((i * n + r) / n) *ℤ pos (n - k)) +ℤ (value_at vs ((i * n + r) / n + 1) *ℤ pos k)) rest ∙ ap (λ j. between vs n j r) whole

-- the weights of a and b move by one from a to b
nearer : (a b : ℤ) (n r : ℕ) → r < n → a ≤ℤ b → ((a *ℤ pos (n - r)) +ℤ (b *ℤ pos r)) ≤ℤ ((a *ℤ pos (n - suc r)) +ℤ (b *ℤ pos (suc r)))
nearer a b n r h le =
    let k : ℕ = n - suc r in
    let one : n - r ≡ suc k = omega arith in
    rw one (omega (arith, ints))

-- with the whole weight on it, b is the first of its own pair
arrived : (a b c : ℤ) (n : ℕ) → ((a *ℤ pos (n - n)) +ℤ (b *ℤ pos n)) ≡ ((b *ℤ pos (n - 0)) +ℤ (c *ℤ pos 0))
arrived a b c n =
    let nothing : n - n ≡ 0 = omega arith in
    let all : n - 0 ≡ n = omega arith in
    rw (nothing, all) (omega (arith, ints))

le_same : (x y x' y' : ℤ) → x ≡ x' → y ≡ y' → x' ≤ℤ y' → x ≤ℤ y
le_same x y x' y' e f h = omega (arith, ints)

edge-step : (vs : List ℤ) (n i r : ℕ) → r < n → value_at vs i ≤ℤ value_at vs (i + 1) → edge vs (i * n + r) n ≤ℤ edge vs (suc (i * n + r)) n
edge-step vs n i r h le = elim (cases_lt (suc r) n) [
  | inl lt ↦
      let same_place : suc (i * n + r) ≡ i * n + suc r = omega arith in
      le_same (edge vs (i * n + r) n) (edge vs (suc (i * n + r)) n) (between vs n i r) (between vs n i (suc r)) (edge-between vs n i r h)
      (ap (λ q. edge vs q n) same_place ∙ edge-between vs n i (suc r) lt) (nearer (value_at vs i) (value_at vs (i + 1)) n r h le)
  | inr ge ↦
      let full : suc r ≡ n = omega arith in
      let next_place : suc (i * n + r) ≡ (i + 1) * n + 0 = omega arith in
      let close : between vs n i r ≤ℤ between vs n i (suc r) = nearer (value_at vs i) (value_at vs (i + 1)) n r h le in
      le_same (edge vs (i * n + r) n) (edge vs (suc (i * n + r)) n) (between vs n i r) (between vs n i (suc r)) (edge-between vs n i r h)
      (ap (λ q. edge vs q n) next_place ∙ edge-between vs n (i + 1) 0 (omega arith) ∙ sym (arrived (value_at vs i) (value_at vs (i + 1)) (value_at vs (i + 1 + 1)) n)
      ∙ ap (λ k. between vs n i k) (sym full)) close
]

place-inside : (i m n p : ℕ) → i * n ≤ p → suc p ≤ n * m → i < m
place-inside i m n p low high = elim (cases_lt i m) [
  | inl lt ↦ lt
  | inr ge ↦ (let le : m * n ≤ i * n = mul-le m n i n ge (omega arith) in absurd (omega arith))
]

edge-next : (vs : List ℤ) (n p : ℕ) → 0 < n → suc p ≤ n * (length vs - 1) → edge vs p n ≤ℤ edge vs (suc p) n
edge-next vs n p h inside =
    let i : ℕ = p / n in
    let low : i * n ≤ p = div-mul-le_self p n in
    let high : p < i * n + n = lt-div-mul-add h in
    let last : i < length vs - 1 = place-inside i (length vs - 1) n p low inside in
    let split : i * n + (p - i * n) ≡ p = omega arith in
    let ascend : value_at vs i ≤ℤ value_at vs (i + 1) = value_at-le vs i (i + 1) (omega arith) (omega arith) in
    subst (λ q. edge vs q n ≤ℤ edge vs (suc q) n) split (edge-step vs n i (p - i * n) (omega arith) ascend)

le_trans : (x y z : ℤ) → x ≤ℤ y → y ≤ℤ z → x ≤ℤ z
le_trans x y z h k = omega (arith, ints)

le_self : (x y : ℤ) → x ≡ y → x ≤ℤ y
le_self x y e = omega (arith, ints)

edges-from : (vs : List ℤ) (n p k q : ℕ) → 0 < n → q ≡ k + p → q ≤ n * (length vs - 1) → edge vs p n ≤ℤ edge vs q n
edges-from vs n p zero q h e inside = let same_place : p ≡ q = omega arith in le_self (edge vs p n) (edge vs q n) (ap (λ r. edge vs r n) same_place)
edges-from vs n p (suc k) q h e inside =
    let next : suc (k + p) ≡ q = omega arith in
    le_trans (edge vs p n) (edge vs (k + p) n) (edge vs q n) (edges-from vs n p k (k + p) h refl (omega arith))
    (subst (λ r. edge vs (k + p) n ≤ℤ edge vs r n) next (edge-next vs n (k + p) h (omega arith)))

pub edges-ascend : (vs : List ℤ) (n p q : ℕ) → 0 < n → p ≤ q → q ≤ n * (length vs - 1) → edge vs p n ≤ℤ edge vs q n
edges-ascend vs n p q h le inside = edges-from vs n p (q - p) q h (omega arith) inside

-- ---- how many of the numbers from a on pass, where none passes after one that doesn't

Falls : (ℕ → Bool) → ℕ → ℕ → Type 0
Falls Q a n = (i j : ℕ) → a ≤ i → i ≤ j → j < a + n → Q j ≡ true → Q i ≡ true

-- the first c of them pass, and no others do
record IsFront (Q : ℕ → Bool) (a n c : ℕ) : Type 0 where
  last : 0 < c → Q (a + c - 1) ≡ true
  next : c < n → Q (a + c) ≡ false

front : (Q : ℕ → Bool) (a n : ℕ) → Falls Q a n → IsFront Q a n (count_by Q (range_with_len a n))
unfolding Falls
front Q a zero fall = record { last = λ h. absurd (omega arith); next = λ h. absurd (omega arith) }
front Q a (suc n) fall =
    let c : ℕ = count_by Q (range_with_len (a + 1) n) in
    let few : c ≤ n = omega (arith, count_by-le-length Q (range_with_len (a + 1) n), length-range_with_len (a + 1) n) in
    here (Q a) refl c few (count-cons Q a (range_with_len (a + 1) n)) (front Q (a + 1) n (λ i j l m o t. fall i j (omega arith) m (omega arith) t))
  where
    here : (b : Bool) → Q a ≡ b → (c : ℕ) → c ≤ n → count_by Q (range_with_len a (suc n)) ≡ cond (Q a) 1 0 + c → IsFront Q (a + 1) n c → IsFront Q a (suc n) (count_by Q (range_with_len a (suc n)))
    here true t c few e rest =
        let all : count_by Q (range_with_len a (suc n)) ≡ suc c = e ∙ ap (λ b. cond b 1 0 + c) t ∙ omega arith in
        subst (λ k. IsFront Q a (suc n) k) (sym all) (record {
          last = λ h. elim (cases_lt 0 c) [
            | inl some ↦ (let at : a + 1 + c - 1 ≡ a + suc c - 1 = omega arith in subst (λ k. Q k ≡ true) at (rest.last some))
            | inr nothing ↦ (let at : a ≡ a + suc c - 1 = omega arith in subst (λ k. Q k ≡ true) at t)
          ];
          next = λ h. let at : a + 1 + c ≡ a + suc c = omega arith in subst (λ k. Q k ≡ false) at (rest.next (omega arith));
        })
    here false f c few e rest =
        let nothing : c ≡ 0 = elim (cases_lt 0 c) [
          | inl some ↦ (let up : Q a ≡ true = fall a (a + 1 + c - 1) (omega arith) (omega arith) (omega arith) (rest.last some) in absurd (let bad : true ≡ false = sym up ∙ f in cc))
          | inr zero_many ↦ omega arith
        ] in
        let all : count_by Q (range_with_len a (suc n)) ≡ 0 = e ∙ ap (λ b. cond b 1 0 + c) f ∙ omega arith in
        let at : a ≡ a + 0 = omega arith in
        subst (λ k. IsFront Q a (suc n) k) (sym all) (record { last = λ h. absurd (omega arith); next = λ h. subst (λ k. Q k ≡ false) at f })

front-below : (Q : ℕ → Bool) (a n c k : ℕ) → Falls Q a n → IsFront Q a n c → IsFront Q a n k → k ≤ n → c < k → ⊥
unfolding Falls
front-below Q a n c k fall f g few lt =
    let no_more : Q (a + c) ≡ false = f.next (omega arith) in
    let passes : Q (a + c) ≡ true = fall (a + c) (a + k - 1) (omega arith) (omega arith) (omega arith) (g.last (omega arith)) in
    let bad : true ≡ false = sym passes ∙ no_more in absurd (cc)

front-is_one : (Q : ℕ → Bool) (a n c k : ℕ) → Falls Q a n → IsFront Q a n c → IsFront Q a n k → c ≤ n → k ≤ n → c ≡ k
front-is_one Q a n c k fall f g few few' = elim (cases_lt c k) [
  | inl lt ↦ absurd (front-below Q a n c k fall f g few' lt)
  | inr ge ↦ elim (cases_lt k c) [
    | inl lt ↦ absurd (front-below Q a n k c fall g f few lt)
    | inr le ↦ omega arith
  ]
]

-- ---- bins

lies_below : (e f x : ℤ) → e ≤ℤ f → int_lt f x ≡ true → int_lt e x ≡ true
lies_below e f x h t = grind (arith, ints)

module _ (bins : ℕ) (vs : List ℤ) (x : ℤ) where
  passed : ℕ → Bool
  passed k = int_lt (edge_of bins vs k) (x *ℤ pos bins)

  passed-falls : Falls passed 1 (bins - 1)
  unfolding passed Falls
  passed-falls i j low le high t =
      let lower : i * (length vs - 1) ≤ j * (length vs - 1) = mul-le i (length vs - 1) j (length vs - 1) le (omega arith) in
      let inside : j * (length vs - 1) ≤ bins * (length vs - 1) = mul-le j (length vs - 1) bins (length vs - 1) (omega arith) (omega arith) in
      lies_below (edge_of bins vs i) (edge_of bins vs j) (x *ℤ pos bins) (edges-ascend vs bins (i * (length vs - 1)) (j * (length vs - 1)) (omega arith) lower inside) t

  bin-front : IsFront passed 1 (bins - 1) (bin_of bins vs x)
  unfolding passed
  bin-front = front passed 1 (bins - 1) passed-falls

  bin-few : bin_of bins vs x ≤ bins - 1
  bin-few = (bins-few bins vs x x).0

  pub bins-between : (k : ℕ) → k < bins → (bin_of bins vs x ≡ k) ↔ ((0 < k → edge_of bins vs k <ℤ (x *ℤ pos bins)) × (k + 1 < bins → (x *ℤ pos bins) ≤ℤ edge_of bins vs (k + 1)))
  unfolding passed
  bins-between k inside = (to, from)
    where
      above : (e : ℤ) → int_lt e (x *ℤ pos bins) ≡ true → e <ℤ (x *ℤ pos bins)
      above e t = grind (arith, ints)

      not_above : (e : ℤ) → int_lt e (x *ℤ pos bins) ≡ false → (x *ℤ pos bins) ≤ℤ e
      not_above e f = grind (arith, ints)

      is_above : (e : ℤ) → e <ℤ (x *ℤ pos bins) → int_lt e (x *ℤ pos bins) ≡ true
      is_above e h = grind (arith, ints)

      is_not_above : (e : ℤ) → (x *ℤ pos bins) ≤ℤ e → int_lt e (x *ℤ pos bins) ≡ false
      is_not_above e h = grind (arith, ints)

      to : bin_of bins vs x ≡ k → (0 < k → edge_of bins vs k <ℤ (x *ℤ pos bins)) × (k + 1 < bins → (x *ℤ pos bins) ≤ℤ edge_of bins vs (k + 1))
      to e =
          let at : IsFront passed 1 (bins - 1) k = subst (λ c. IsFront passed 1 (bins - 1) c) e bin-front in (
            λ some. let same_edge : 1 + k - 1 ≡ k = omega arith in above (edge_of bins vs k) (subst (λ c. passed c ≡ true) same_edge (at.last some)),
            λ more. let next_edge : 1 + k ≡ k + 1 = omega arith in not_above (edge_of bins vs (k + 1)) (subst (λ c. passed c ≡ false) next_edge (at.next (omega arith))),
          )

      from : (0 < k → edge_of bins vs k <ℤ (x *ℤ pos bins)) × (k + 1 < bins → (x *ℤ pos bins) ≤ℤ edge_of bins vs (k + 1)) → bin_of bins vs x ≡ k
      from h =
          front-is_one passed 1 (bins - 1) (bin_of bins vs x) k passed-falls bin-front (record {
            last = λ some. let same_edge : k ≡ 1 + k - 1 = omega arith in subst (λ c. passed c ≡ true) same_edge (is_above (edge_of bins vs k) (h.0 some));
            next = λ more. let next_edge : k + 1 ≡ 1 + k = omega arith in subst (λ c. passed c ≡ false) next_edge (is_not_above (edge_of bins vs (k + 1)) (h.1 (omega arith)));
          }) bin-few (omega arith)

-- ---- the whole range

pub same-some : (x : ℤ) (vs : List ℤ) → In x vs → 0 < count_equal x vs
same-some x vs i =
    let one : int_eq x x ≡ true = grind (arith, ints) in
    omega (arith, count-fewer (λ u. false) (int_eq x) vs x i refl one (λ y j t. absurd (let bad : false ≡ true = t in cc)))

below-fewer : (x : ℤ) (vs : List ℤ) → In x vs → suc (count_less x vs) ≤ length vs
below-fewer x vs i =
    let self : int_lt x x ≡ false = grind (arith, ints) in
    omega (arith, count-fewer (λ u. int_lt u x) (λ u. true) vs x i self refl (λ y j t. refl), count_by-le-length (λ u. true) vs)

least-le : (vs : List ℤ) (x : ℤ) → In x vs → 0 < length vs → value_at vs 0 ≤ℤ x
least-le vs x i h = by_lt_z x (value_at vs 0) (λ l. absurd (omega (arith, at_most-below x (value_at vs 0) vs l, (value_at-counted vs 0 h).few, same-some x vs i))) (λ l. l)

le-greatest : (vs : List ℤ) (x : ℤ) → In x vs → 0 < length vs → x ≤ℤ value_at vs (length vs - 1)
le-greatest vs x i h = by_lt_z (value_at vs (length vs - 1)) x
    (λ l. absurd (omega (arith, at_most-below (value_at vs (length vs - 1)) x vs l, (value_at-counted vs (length vs - 1) (omega arith)).many, below-fewer x vs i))) (λ l. l)

-- the edge on the value at place i
pub edge-on : (vs : List ℤ) (n i p : ℕ) → 0 < n → p ≡ i * n + 0 → edge vs p n ≡ value_at vs i *ℤ pos n
edge-on vs n i p h e =
    let all : n - 0 ≡ n = omega arith in
    ap (λ q. edge vs q n) e ∙ edge-between vs n i 0 h ∙ on_one (value_at vs i) (value_at vs (i + 1)) n (n - 0) all
  where
    on_one : (a b : ℤ) (n m : ℕ) → m ≡ n → ((a *ℤ pos m) +ℤ (b *ℤ pos 0)) ≡ a *ℤ pos n
    on_one a b n m e = rw e (omega (arith, ints))

whole : (vs : List ℤ) (x : ℤ) → In x vs → 0 < length vs → is_percentile_between 0 10000 vs x ≡ true
whole vs x i h =
    let low : edge vs (0 * (length vs - 1)) 10000 ≡ value_at vs 0 *ℤ pos 10000 = edge-on vs 10000 0 (0 * (length vs - 1)) (omega arith) (omega arith) in
    let high : edge vs (10000 * (length vs - 1)) 10000 ≡ value_at vs (length vs - 1) *ℤ pos 10000 = edge-on vs 10000 (length vs - 1) (10000 * (length vs - 1)) (omega arith) (omega arith) in
    let over : int_le (edge vs (0 * (length vs - 1)) 10000) (x *ℤ pos 10000) ≡ true =
    ap (λ z. int_le z (x *ℤ pos 10000)) low ∙ le-int_le (value_at vs 0 *ℤ pos 10000) (x *ℤ pos 10000) (times-le (value_at vs 0) x 10000 (least-le vs x i h)) in
    let under : int_le (x *ℤ pos 10000) (edge vs (10000 * (length vs - 1)) 10000) ≡ true =
    ap (λ z. int_le (x *ℤ pos 10000) z) high ∙ le-int_le (x *ℤ pos 10000) (value_at vs (length vs - 1) *ℤ pos 10000) (times-le x (value_at vs (length vs - 1)) 10000 (le-greatest vs x i h)) in
    ap (λ b. b && int_le (x *ℤ pos 10000) (edge vs (10000 * (length vs - 1)) 10000)) over ∙ under

some-length : (vs : List ℤ) (x : ℤ) → In x vs → 0 < length vs
some-length [] x i = absurd i
some-length (v ∷ vs) x i = omega arith

pub whole-range : (list : List Entry) (a : ℕ) (x : ℤ) → Contains (values list) x → cross (PercentileBetween 0 10000) list a x ≡ pos 1
unfolding cross
whole-range list a x c =
    let i : In x (values list) = contains-in (values list) x c in
    ap truth (whole (values list) x i (some-length (values list) x i))
