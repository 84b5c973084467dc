-- Winsorized values lie between two of the list.
use Rattle.std.proofs.Common.{◌≡◌, ℕ, suc, ◌+◌, ◌-◌, ◌*◌, ◌/◌, ◌<◌, ◌≤◌, Bool, true, false, if◌then◌else◌, ℤ, ◌≤ℤ◌, List, [], ◌∷◌, length, refl, ◌∙◌, ap, arith, cond}
use Rattle.std.specs.List.{Contains, count_by}
use Rattle.std.specs.Int.{int_max, int_min}
use Rattle.std.specs.Int.RustNames.{int_lt}
use Rattle.std.proofs.lemmas.Int.{ints, by_lt_z}
use Rattle.std.proofs.lemmas.List.Sums.{count_by-le-length}
use Rattle.std.proofs.lemmas.Nat.{mul-le}
use Rattle.pl_spec.specs.Rounding.{MILLION}
use Rattle.pl_pipeline.specs.Kind.CrossKind.{Winsorize}
use Rattle.pl_pipeline.specs.Cross.{Entry, values, winsorized, cross}
use Rattle.pl_pipeline.specs.Order.{value_at, count_less, count_equal}
use Rattle.pl_spec.proofs.Counts.{count-fewer}
use Rattle.pl_spec.proofs.Members.{In, contains-in}
use Rattle.pl_pipeline.proofs.SortedValues.{at_most-below, value_at-counted, value_at-le}
use Rattle.pl_pipeline.proofs.Edges.{same-some}

-- ---- the lesser and the greater of two

lesser : (b x : ℤ) → int_min b x ≤ℤ b
lesser b x = here (int_lt x b) refl
  where
    here : (c : Bool) → int_lt x b ≡ c → (if c then x else b) ≤ℤ b
    here true e = grind (arith, ints)
    here false e = omega (arith, ints)

greater : (a y b : ℤ) → a ≤ℤ b → y ≤ℤ b → (a ≤ℤ int_max a y) × (int_max a y ≤ℤ b)
greater a y b h k = here (int_lt y a) refl
  where
    less : int_lt y a ≡ false → a ≤ℤ y
    less e = grind (arith, ints)

    self : a ≤ℤ a
    self = omega (arith, ints)

    here : (c : Bool) → int_lt y a ≡ c → (a ≤ℤ (if c then a else y)) × ((if c then a else y) ≤ℤ b)
    here true e = (self, h)
    here false e = (less e, k)

least-is : (b x : ℤ) → x ≤ℤ b → int_min b x ≡ x
least-is b x h = here (int_lt x b) refl
  where
    here : (c : Bool) → int_lt x b ≡ c → (if c then x else b) ≡ x
    here true e = refl
    here false e = grind (arith, ints)

greatest-is : (a x : ℤ) → a ≤ℤ x → int_max a x ≡ x
greatest-is a x h = here (int_lt x a) refl
  where
    here : (c : Bool) → int_lt x a ≡ c → (if c then a else x) ≡ x
    here true e = absurd (let no : ⊥ = grind (arith, ints) in no)
    here false e = refl

-- ---- values between the least and the greatest

least-le : (vs : List ℤ) (x : ℤ) → In x vs → 0 < length vs → value_at vs 0 ≤ℤ x
least-le vs x i h = by_lt_z x (value_at vs 0) (λ l. absurd (omega (arith, at_most-below x (value_at vs 0) vs l, (value_at-counted vs 0 h).few, same-some x vs i))) (λ l. l)

below-fewer : (x : ℤ) (vs : List ℤ) → In x vs → suc (count_less x vs) ≤ length vs
below-fewer x vs i =
    let self : int_lt x x ≡ false = grind (arith, ints) in
    omega (arith, count-fewer (λ u. int_lt u x) (λ u. true) vs x i self refl (λ y j t. refl), count_by-le-length (λ u. true) vs)

le-greatest : (vs : List ℤ) (x : ℤ) → In x vs → 0 < length vs → x ≤ℤ value_at vs (length vs - 1)
le-greatest vs x i h =
    by_lt_z (value_at vs (length vs - 1)) x
    (λ l. absurd (omega (arith, at_most-below (value_at vs (length vs - 1)) x vs l, (value_at-counted vs (length vs - 1) (omega arith)).many, below-fewer x vs i))) (λ l. l)

some-length : (vs : List ℤ) (x : ℤ) → In x vs → 0 < length vs
some-length [] x i = absurd i
some-length (v ∷ vs) x i = omega arith

pub whole-winsorizing : (list : List Entry) (a : ℕ) (x : ℤ) → Contains (values list) x → cross (Winsorize 0 MILLION) list a x ≡ x
unfolding cross
whole-winsorizing list a x c =
    let vs : List ℤ = values list in
    let i : In x (values list) = contains-in (values list) x c in
    let some : 0 < length (values list) = some-length (values list) x i in
    let first : 0 * length (values list) / MILLION ≡ 0 = omega arith in
    let last : (MILLION * length (values list) + MILLION - 1) / MILLION - 1 ≡ length (values list) - 1 = omega arith in
    ap (λ k. int_max (value_at vs k) (int_min (value_at vs ((MILLION * length vs + MILLION - 1) / MILLION - 1)) x)) first
    ∙ ap (λ k. int_max (value_at vs 0) (int_min (value_at vs k) x)) last
    ∙ ap (int_max (value_at vs 0)) (least-is (value_at vs (length vs - 1)) x (le-greatest vs x i some))
    ∙ greatest-is (value_at vs 0) x (least-le vs x i some)

-- ---- any places

places : (low high n : ℕ) → low < high → high ≤ MILLION → 0 < n → (low * n / MILLION ≤ (high * n + MILLION - 1) / MILLION - 1) × ((high * n + MILLION - 1) / MILLION - 1 < n)
places low high n h k some =
    let up : (low + 1) * n ≤ high * n = mul-le (low + 1) n high n (omega arith) (omega arith) in
    let top : high * n ≤ MILLION * n = mul-le high n MILLION n k (omega arith) in
    (omega arith, omega arith)

pub winsorized-between : (low high : ℕ) (vs : List ℤ) (x : ℤ) → low < high → high ≤ MILLION → 0 < length vs
    → (value_at vs (low * length vs / MILLION) ≤ℤ winsorized low high vs x)
    × (winsorized low high vs x ≤ℤ value_at vs ((high * length vs + MILLION - 1) / MILLION - 1))
winsorized-between low high vs x h k some =
    let p = places low high (length vs) h k some in
    let i : ℕ = low * length vs / MILLION in
    let j : ℕ = (high * length vs + MILLION - 1) / MILLION - 1 in
    greater (value_at vs i) (int_min (value_at vs j) x) (value_at vs j) (value_at-le vs i j p.0 p.1) (lesser (value_at vs j) x)
