-- Powers and products of numbers in other units, and moments of them.
use Rattle.std.proofs.Common.{◌≡◌, ℕ, ◌*◌, ◌^◌, ℤ, pos, ◌+ℤ◌, ◌-ℤ◌, ◌*ℤ◌, List, [], ◌∷◌, map, unsigned_abs, refl, sym, ap, ap₂, ◌∙◌, arith}
use Rattle.std.specs.Int.RustNames.{int_lt}
use Rattle.std.proofs.Math.IntN.{*ℤ_comm}
use Rattle.std.proofs.Math.Nat.{mul-pos}
use Rattle.std.proofs.lemmas.Int.{unsigned_abs-mul}
use Rattle.std.proofs.lemmas.List.{length-map}
use Rattle.pl_spec.specs.Cells.{present_values}
use Rattle.pl_spec.specs.Rounding.{MILLION, Fraction, scaled}
use Rattle.pl_pipeline.specs.Formula.{PowerSums, sums_of_powers, power_sums, second_moment, third_moment, fourth_moment, square, root_quot, skewness, kurtosis}
use Rattle.pl_invariance.specs.Units.{IsRatio, AreExact}
use Rattle.pl_invariance.proofs.Compared.{quot_same, sub-times}
use Rattle.pl_invariance.proofs.Ring.{first-out, times-times}
use Rattle.pl_invariance.proofs.Scales.{root-same}
use Rattle.pl_invariance.proofs.Units.{Times, AllTimes, times-zero, add-times, swapped, less-same, all-scaled, total-times, presents}

-- ---- y times q is x times p

abbrev pub By : ℕ → ℕ → ℤ → ℤ → Type 0
By q p y x = (y *ℤ pos q) ≡ (x *ℤ pos p)

regrouped : (a b : ℤ) (m n : ℕ) → (a *ℤ b) *ℤ pos (m * n) ≡ (a *ℤ pos m) *ℤ (b *ℤ pos n)
regrouped a b m n =
    sym (times-times (a *ℤ b) (pos m) (pos n)) ∙ ap (λ (z : ℤ). z *ℤ pos n) (first-out a b (pos m))
    ∙ times-times (a *ℤ pos m) b (pos n)

pub product-by : (q p q' p' : ℕ) (y x y' x' : ℤ) → By q p y x → By q' p' y' x' → By (q * q') (p * p') (y *ℤ y') (x *ℤ x')
product-by q p q' p' y x y' x' e f =
    regrouped y y' q q' ∙ ap₂ (λ (u v : ℤ). u *ℤ v) e f ∙ sym (regrouped x x' p p')

pub factor-by : (q p : ℕ) (k y x : ℤ) → By q p y x → By q p (k *ℤ y) (k *ℤ x)
factor-by q p k y x e =
    ap (λ t. t *ℤ pos q) (*ℤ_comm k y) ∙ swapped y k q ∙ ap (λ t. t *ℤ k) e ∙ sym (swapped x k p)
    ∙ ap (λ t. t *ℤ pos p) (*ℤ_comm x k)

pub minus-by : (q p : ℕ) (y y' x x' : ℤ) → By q p y x → By q p y' x' → By q p (y -ℤ y') (x -ℤ x')
minus-by q p y y' x x' e f = sub-times y' y q ∙ ap₂ (λ (u v : ℤ). u -ℤ v) e f ∙ sym (sub-times x' x p)

plus-by : (q p : ℕ) (y y' x x' : ℤ) → By q p y x → By q p y' x' → By q p (y +ℤ y') (x +ℤ x')
plus-by q p y y' x x' e f = add-times y y' q ∙ ap₂ (λ (u v : ℤ). u +ℤ v) e f ∙ sym (add-times x x' p)

pub written-by : (q p q' p' : ℕ) (y x : ℤ) → q ≡ q' → p ≡ p' → By q p y x → By q' p' y x
written-by q p q' p' y x e f h = ap (λ n. y *ℤ pos n) (sym e) ∙ h ∙ ap (λ n. x *ℤ pos n) f

pub size-by : (q p : ℕ) (y x : ℤ) → By q p y x → unsigned_abs y * q ≡ unsigned_abs x * p
size-by q p y x e = sym (unsigned_abs-mul y (pos q)) ∙ ap unsigned_abs e ∙ unsigned_abs-mul x (pos p)

-- ---- powers of a ratio

abbrev two : ℕ → ℕ
two n = n * n

abbrev three : ℕ → ℕ
three n = n * (n * n)

abbrev four : ℕ → ℕ
four n = (n * n) * (n * n)

abbrev power : (ℕ → ℕ) → Fraction → Fraction
power f r = record { num = f r.num; den = f r.den }

ratio-two : (r : Fraction) → IsRatio r → IsRatio (power two r)
ratio-two r h = (mul-pos h.0 h.0, mul-pos h.1 h.1)

ratio-three : (r : Fraction) → IsRatio r → IsRatio (power three r)
ratio-three r h = let s = ratio-two r h in (mul-pos h.0 s.0, mul-pos h.1 s.1)

ratio-four : (r : Fraction) → IsRatio r → IsRatio (power four r)
ratio-four r h = let s = ratio-two r h in (mul-pos s.0 s.0, mul-pos s.1 s.1)

-- ---- moments

module _ (r : Fraction) (ratio : IsRatio r) where
  -- the sums of powers of numbers in the other unit
  record ArePowers (t s : PowerSums) : Type 0 where
    pub number : t.number ≡ s.number
    pub first : By r.den r.num t.first s.first
    pub second : By (two r.den) (two r.num) t.second s.second
    pub third : By (three r.den) (three r.num) t.third s.third
    pub fourth : By (four r.den) (four r.num) t.fourth s.fourth

  -- what f makes of each is multiplied by another ratio
  all-by : (f : ℤ → ℤ) (s : Fraction) (above : IsRatio s)
      → ((y x : ℤ) → Times r ratio y x → Times s above (f y) (f x)) → (ys xs : List ℤ) → AllTimes r ratio ys xs
      → AllTimes s above (map f ys) (map f xs)
  all-by f s above one [] [] h = tt
  all-by f s above one [] (x ∷ xs) h = absurd h
  all-by f s above one (y ∷ ys) [] h = absurd h
  all-by f s above one (y ∷ ys) (x ∷ xs) h = (one y x h.0, all-by f s above one ys xs h.1)

  squared-by : (y x : ℤ) → By r.den r.num y x → By (two r.den) (two r.num) (y *ℤ y) (x *ℤ x)
  squared-by y x e = product-by r.den r.num r.den r.num y x y x e e

  cubed-by : (y x : ℤ) → By r.den r.num y x → By (three r.den) (three r.num) (y *ℤ (y *ℤ y)) (x *ℤ (x *ℤ x))
  cubed-by y x e = product-by r.den r.num (two r.den) (two r.num) y x (y *ℤ y) (x *ℤ x) e (squared-by y x e)

  fourth-by : (y x : ℤ) → By r.den r.num y x
      → By (four r.den) (four r.num) ((y *ℤ y) *ℤ (y *ℤ y)) ((x *ℤ x) *ℤ (x *ℤ x))
  fourth-by y x e =
      product-by (two r.den) (two r.num) (two r.den) (two r.num) (y *ℤ y) (x *ℤ x) (y *ℤ y) (x *ℤ x)
      (squared-by y x e) (squared-by y x e)

  are-powers : (xs : List ℤ) → AreExact r xs → ArePowers (power_sums (map (scaled r) xs)) (power_sums xs)
  are-powers xs h =
      let vs = present_values xs in
      let both = presents r ratio xs h in
      let all : AllTimes r ratio (map (scaled r) vs) vs = all-scaled r ratio vs both.1 in
      let at : ArePowers (sums_of_powers (map (scaled r) vs)) (sums_of_powers vs) = record {
        number = length-map vs (scaled r);
        first = total-times r ratio _ _ all;
        second =
            total-times (power two r) (ratio-two r ratio) _ _
            (all-by (λ x. x *ℤ x) (power two r) (ratio-two r ratio) squared-by _ _ all);
        third =
            total-times (power three r) (ratio-three r ratio) _ _
            (all-by (λ x. x *ℤ (x *ℤ x)) (power three r) (ratio-three r ratio) cubed-by _ _ all);
        fourth =
            total-times (power four r) (ratio-four r ratio) _ _
            (all-by (λ x. (x *ℤ x) *ℤ (x *ℤ x)) (power four r) (ratio-four r ratio) fourth-by _ _ all);
      } in
      rw both.0 at

  module _ (t s : PowerSums) (h : ArePowers t s) where
    abbrev d : ℕ
    d = r.den

    abbrev n : ℕ
    n = r.num

    abbrev many : ℤ
    many = pos s.number

    abbrev m : ℤ
    m = s.first

    abbrev k : ℤ
    k = t.first

    squares : By (two d) (two n) (k *ℤ k) (m *ℤ m)
    squares = squared-by k m h.first

    second-by : By (two d) (two n) (second_moment t) (second_moment s)
    second-by =
        rw h.number
        (minus-by (two d) (two n) (many *ℤ t.second) (k *ℤ k) (many *ℤ s.second) (m *ℤ m)
        (factor-by (two d) (two n) many t.second s.second h.second) squares)

    third-by : By (three d) (three n) (third_moment t) (third_moment s)
    third-by =
        let a = factor-by (three d) (three n) (many *ℤ many) t.third s.third h.third in
        let times = factor-by d n many k m h.first in
        let joint = product-by d n (two d) (two n) (many *ℤ k) (many *ℤ m) t.second s.second times h.second in
        let b = factor-by (three d) (three n) (pos 3) ((many *ℤ k) *ℤ t.second) ((many *ℤ m) *ℤ s.second) joint in
        let cube = product-by (two d) (two n) d n (k *ℤ k) (m *ℤ m) k m squares h.first in
        let written = written-by (two d * d) (two n * n) (three d) (three n) ((k *ℤ k) *ℤ k) ((m *ℤ m) *ℤ m) (omega arith) (omega arith) cube in
        let c = factor-by (three d) (three n) (pos 2) ((k *ℤ k) *ℤ k) ((m *ℤ m) *ℤ m) written in
        ap (λ (c : ℕ). third_moment (record t { number = c }) *ℤ pos (three d)) h.number
        ∙ plus-by (three d) (three n) _ _ _ _ (minus-by (three d) (three n) _ _ _ _ a b) c

    fourth-is : By (four d) (four n) (fourth_moment t) (fourth_moment s)
    fourth-is =
        let a = factor-by (four d) (four n) ((many *ℤ many) *ℤ many) t.fourth s.fourth h.fourth in
        let times = factor-by d n (many *ℤ many) k m h.first in
        let joint = product-by d n (three d) (three n) ((many *ℤ many) *ℤ k) ((many *ℤ many) *ℤ m) t.third s.third times h.third in
        let joined = written-by (d * three d) (n * three n) (four d) (four n) (((many *ℤ many) *ℤ k) *ℤ t.third) (((many *ℤ many) *ℤ m) *ℤ s.third) (omega arith) (omega arith) joint in
        let b = factor-by (four d) (four n) (pos 4) (((many *ℤ many) *ℤ k) *ℤ t.third) (((many *ℤ many) *ℤ m) *ℤ s.third) joined in
        let inner = factor-by (two d) (two n) many (k *ℤ k) (m *ℤ m) squares in
        let product = product-by (two d) (two n) (two d) (two n) (many *ℤ (k *ℤ k)) (many *ℤ (m *ℤ m)) t.second s.second inner h.second in
        let c = factor-by (four d) (four n) (pos 6) ((many *ℤ (k *ℤ k)) *ℤ t.second) ((many *ℤ (m *ℤ m)) *ℤ s.second) product in
        let twice = product-by (two d) (two n) (two d) (two n) (k *ℤ k) (m *ℤ m) (k *ℤ k) (m *ℤ m) squares squares in
        let e = factor-by (four d) (four n) (pos 3) ((k *ℤ k) *ℤ (k *ℤ k)) ((m *ℤ m) *ℤ (m *ℤ m)) twice in
        ap (λ (c : ℕ). fourth_moment (record t { number = c }) *ℤ pos (four d)) h.number
        ∙ minus-by (four d) (four n) _ _ _ _ (plus-by (four d) (four n) _ _ _ _ (minus-by (four d) (four n) _ _ _ _ a b) c) e

    cube-of : (u v p q : ℕ) → v * q ≡ u * p → v * v * v * (q * q * q) ≡ u * u * u * (p * p * p)
    cube-of u v p q e =
        let left : v * v * v * (q * q * q) ≡ (v * q) * (v * q) * (v * q) = omega arith in
        let right : u * u * u * (p * p * p) ≡ (u * p) * (u * p) * (u * p) = omega arith in
        left ∙ ap (λ z. z * z * z) e ∙ sym right

    square-of : (u v p q c : ℕ) → v * q ≡ u * p → v * v * c * (q * q) ≡ u * u * c * (p * p)
    square-of u v p q c e =
        let left : v * v * c * (q * q) ≡ (v * q) * (v * q) * c = omega arith in
        let right : u * u * c * (p * p) ≡ (u * p) * (u * p) * c = omega arith in
        left ∙ ap (λ z. z * z * c) e ∙ sym right

    six : (a : ℕ) → two a * two a * two a ≡ three a * three a
    six a = omega arith

    skewness-is : skewness t ≡ skewness s
    unfolding skewness
    skewness-is =
        let cubes = ratio-three r ratio in
        let sign : int_lt (third_moment t) (pos 0) ≡ int_lt (third_moment s) (pos 0)
        = less-same (power three r) cubes (third_moment t) (pos 0) (third_moment s) (pos 0) third-by (times-zero (power three r) cubes) in
        let above = square-of (unsigned_abs (third_moment s)) (unsigned_abs (third_moment t)) (three n) (three d) (10 ^ 12) (size-by (three d) (three n) (third_moment t) (third_moment s) third-by) in
        let u = unsigned_abs (second_moment s) in
        let v = unsigned_abs (second_moment t) in
        let cube = cube-of u v (two n) (two d) (size-by (two d) (two n) (second_moment t) (second_moment s) second-by) in
        let below : v * v * v * (three d * three d) ≡ u * u * u * (three n * three n)
        = ap (λ z. v * v * v * z) (sym (six d)) ∙ cube ∙ ap (λ z. u * u * u * z) (six n) in
        let root : root_quot (square (third_moment t) * 10 ^ 12) (v * v * v) ≡ root_quot (square (third_moment s) * 10 ^ 12) (u * u * u)
        = root-same _ _ _ _ (three n * three n) (three d * three d) (mul-pos cubes.0 cubes.0) (mul-pos cubes.1 cubes.1) above below in
        rw (sign, root) refl

    kurtosis-is : kurtosis t ≡ kurtosis s
    unfolding kurtosis
    kurtosis-is =
        let fours = ratio-four r ratio in
        let u = second_moment s in
        let v = second_moment t in
        let below = product-by (two d) (two n) (two d) (two n) v u v u second-by second-by in
        let apart = minus-by (four d) (four n) (fourth_moment t) (pos 3 *ℤ (v *ℤ v)) (fourth_moment s) (pos 3 *ℤ (u *ℤ u)) fourth-is (factor-by (four d) (four n) (pos 3) (v *ℤ v) (u *ℤ u) below) in
        let above : By (four d) (four n) ((fourth_moment t -ℤ (pos 3 *ℤ (v *ℤ v))) *ℤ pos MILLION) ((fourth_moment s -ℤ (pos 3 *ℤ (u *ℤ u))) *ℤ pos MILLION)
        = swapped (fourth_moment t -ℤ (pos 3 *ℤ (v *ℤ v))) (pos MILLION) (four d) ∙ ap (λ (z : ℤ). z *ℤ pos MILLION) apart ∙ sym (swapped (fourth_moment s -ℤ (pos 3 *ℤ (u *ℤ u))) (pos MILLION) (four n)) in
        quot_same _ _ _ _ (four n) (four d) fours.0 fours.1 above below

  pub skewness-same : (xs : List ℤ) → AreExact r xs → skewness (power_sums (map (scaled r) xs)) ≡ skewness (power_sums xs)
  skewness-same xs h = skewness-is _ _ (are-powers xs h)

  pub kurtosis-same : (xs : List ℤ) → AreExact r xs → kurtosis (power_sums (map (scaled r) xs)) ≡ kurtosis (power_sums xs)
  kurtosis-same xs h = kurtosis-is _ _ (are-powers xs h)
