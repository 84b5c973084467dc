-- The exponential rises.
use Rattle.std.proofs.Common.{◌≡◌, ℕ, zero, suc, ◌+◌, ◌*◌, ◌/◌, ◌<◌, ◌≤◌, nat_le, Bool, true, false, if◌then◌else◌, ◌||◌, ℤ, pos, negsuc, neg_ℤ, ◌≤ℤ◌, inl, inr, refl, arith}
use Rattle.std.specs.Int.RustNames.{int_lt}
use Rattle.std.proofs.lemmas.Nat.{mul-le, le-div, div-mul-add}
use Rattle.std.proofs.Math.Nat.{div-mul-le_self}
use Rattle.std.proofs.lemmas.Bool.{cases_lt}
use Rattle.std.proofs.lemmas.Bool.Decides.{nat_tests}
use Rattle.std.proofs.lemmas.Int.{ints}
use Rattle.pl_spec.specs.Rounding.{LIMIT, MILLION, MISSING, is_missing, div_round, to_cell, quot}
use Rattle.pl_pipeline.specs.Elementary.{GRAIN, exp, series}
use Rattle.pl_elementary.proofs.Rising.{div-mono}
use Rattle.pl_elementary.proofs.Terms.{follow-less, one-term}

-- ---- the series

series-rise : (n k s t u v : ℕ) → 0 < k → s ≤ t → u ≤ v → series n k s u ≤ series n k t v
unfolding series
series-rise zero k s t u v p h m = omega arith
series-rise (suc n) k s t u v p h m =
    let r = series-rise n (suc k) _ _ u v (omega arith) (follow-less k s t u v p h m) m in
    omega (arith, r)

abbrev whole : ℕ → ℕ
whole v = series 110 1 (MILLION * GRAIN) v

whole-rise : (u v : ℕ) → u ≤ v → whole u ≤ whole v
whole-rise u v h = series-rise 110 1 (MILLION * GRAIN) (MILLION * GRAIN) u v (omega arith) (omega arith) h

whole-least : (v : ℕ) → MILLION * GRAIN ≤ whole v
whole-least v = omega (arith, one-term 109 1 (MILLION * GRAIN) v)

-- ---- quotients that are rounded

abbrev near : ℕ → ℕ → ℕ
near a b = (2 * a + b) / (2 * b)

near-rise : (a c b : ℕ) → 0 < b → a ≤ c → near a b ≤ near c b
near-rise a c b p h = div-mono (2 * a + b) (2 * c + b) (2 * b) (omega arith) (omega arith)

near-multiple : (m b : ℕ) → 0 < b → near (m * b) b ≡ m
near-multiple m b p = let e : 2 * (m * b) + b ≡ m * (2 * b) + b = omega arith in rw e (div-mul-add m (2 * b) b (omega arith))

-- a greater divisor gives no more
near-fall : (a s t : ℕ) → 0 < s → s ≤ t → near a t ≤ near a s
near-fall a s t p h = here (near a t) (div-mul-le_self (2 * a + t) (2 * t))
  where
    here : (q : ℕ) → q * (2 * t) ≤ 2 * a + t → q ≤ near a s
    here zero k = omega arith
    here (suc q) k =
        let l : (2 * q + 1) * t ≤ 2 * a = omega arith in
        let m : (2 * q + 1) * s ≤ (2 * q + 1) * t = mul-le (2 * q + 1) s (2 * q + 1) t (omega arith) h in
        le-div (suc q) (2 * a + s) (2 * s) (omega arith) (omega arith)

-- ---- cells

cell-low : (b : Bool) (a : ℕ) → (if b then pos a else MISSING) ≤ℤ pos a
cell-low true a = omega (arith, ints)
cell-low false a = omega (arith, ints)

cell-high : (b : Bool) (a : ℕ) → is_missing (if b then pos a else MISSING) ≡ false → (if b then pos a else MISSING) ≡ pos a
cell-high true a h = refl
cell-high false a h = absurd (let no : true ≡ false = h in cc)

below : (a c : ℕ) → a ≤ c → is_missing (to_cell (pos c)) ≡ false → to_cell (pos a) ≤ℤ to_cell (pos c)
unfolding to_cell
below a c h there =
    let l = cell-low (nat_le a LIMIT) a in
    let e = cell-high (nat_le c LIMIT) c there in
    rw e (omega (arith, ints, l))

quot-is : (a b : ℕ) → 0 < b → quot (pos a) (pos b) ≡ to_cell (pos (near a b))
unfolding quot div_round
quot-is a zero h = absurd (omega arith)
quot-is a (suc b) h = refl

-- ---- the exponential, by where the number lies

exp-past : (v : ℕ) → 26000000 < v → exp (pos v) ≡ MISSING
unfolding exp
exp-past v h =
    let t : int_lt (pos 26000000) (pos v) ≡ true = grind (arith, ints, nat_tests) in
    rw t refl

exp-above : (v : ℕ) → v ≤ 26000000 → exp (pos v) ≡ to_cell (pos (near (whole v) GRAIN))
unfolding exp
exp-above v h =
    let t : int_lt (pos 26000000) (pos v) ≡ false = grind (arith, ints, nat_tests) in
    let f : int_lt (pos v) (pos 0) ≡ false = grind (arith, ints, nat_tests) in
    let q = quot-is (whole v) GRAIN (omega arith) in
    rw (t, f) q

exp-below : (n : ℕ) → suc n ≤ 26000000 → exp (negsuc n) ≡ to_cell (pos (near (MILLION * MILLION * GRAIN) (whole (suc n))))
unfolding exp
exp-below n h =
    let m : is_missing (negsuc n) ≡ false = grind (arith, ints, nat_tests) in
    let f : int_lt (negsuc n) (neg_ℤ (pos 26000000)) ≡ false = grind (arith, ints, nat_tests) in
    let q = quot-is (MILLION * MILLION * GRAIN) (whole (suc n)) (omega (arith, whole-least (suc n))) in
    rw (m, f) q

-- it is MISSING or 0
exp-deep : (n : ℕ) → 26000000 < suc n → exp (negsuc n) ≤ℤ pos 0
unfolding exp
exp-deep n h =
    let f : int_lt (negsuc n) (neg_ℤ (pos 26000000)) ≡ true = grind (arith, ints, nat_tests) in
    rw f (here (is_missing (negsuc n) || false))
  where
    here : (b : Bool) → (if b then MISSING else pos 0) ≤ℤ pos 0
    here true = omega (arith, ints)
    here false = omega (arith, ints)

exp-none : (n : ℕ) → 26000000 < suc n → is_missing (exp (negsuc n)) ≡ false → exp (negsuc n) ≡ pos 0
unfolding exp
exp-none n h there =
    let f : int_lt (negsuc n) (neg_ℤ (pos 26000000)) ≡ true = grind (arith, ints, nat_tests) in
    let k : is_missing (if is_missing (negsuc n) || false then MISSING else pos 0) ≡ false = rw f at there in
    rw f (here (is_missing (negsuc n) || false) k)
  where
    here : (b : Bool) → is_missing (if b then MISSING else pos 0) ≡ false → (if b then MISSING else pos 0) ≡ pos 0
    here true k = absurd (let no : true ≡ false = k in cc)
    here false k = refl

to_cell-least : (c : ℕ) → is_missing (to_cell (pos c)) ≡ false → pos 0 ≤ℤ to_cell (pos c)
unfolding to_cell
to_cell-least c there = below 0 c (omega arith) there

over : (v : ℕ) → is_missing (exp (pos v)) ≡ false → 26000000 < v → ⊥
over v there h = let no : true ≡ false = rw (exp-past v h) at there in cc no

pub exp-rise : (y x : ℤ) → y ≤ℤ x → is_missing (exp x) ≡ false → exp y ≤ℤ exp x
exp-rise (pos v) (pos w) h there =
    elim (cases_lt 26000000 w) [
      | inl past ↦ absurd (over w there past)
      | inr within ↦
          let a = exp-above v (omega (arith, ints)) in
          let b = exp-above w within in
          let m = near-rise (whole v) (whole w) GRAIN (omega arith) (whole-rise v w (omega (arith, ints))) in
          rw (a, b) (below _ _ m (rw b at there))
    ]
exp-rise (pos v) (negsuc n) h there = absurd (omega (arith, ints))
exp-rise (negsuc m) (pos w) h there =
    elim (cases_lt 26000000 w) [
      | inl past ↦ absurd (over w there past)
      | inr within ↦
          let b = exp-above w within in
          let known = rw b at there in
          elim (cases_lt 26000000 (suc m)) [
            | inl deep ↦ (let l = exp-deep m deep in let k = to_cell-least _ known in rw b (omega (arith, ints, l, k)))
            | inr low ↦
                let a = exp-below m low in
                let one = near-fall (MILLION * MILLION * GRAIN) (MILLION * GRAIN) (whole (suc m)) (omega arith) (whole-least (suc m)) in
                let unit : near (MILLION * MILLION * GRAIN) (MILLION * GRAIN) ≡ MILLION = near-multiple MILLION (MILLION * GRAIN) (omega arith) in
                let two = near-rise (MILLION * GRAIN) (whole w) GRAIN (omega arith) (whole-least w) in
                let also : near (MILLION * GRAIN) GRAIN ≡ MILLION = near-multiple MILLION GRAIN (omega arith) in
                rw (a, b) (below _ _ (omega (arith, one, unit, two, also)) known)
          ]
    ]
exp-rise (negsuc m) (negsuc n) h there =
    elim (cases_lt 26000000 (suc n)) [
      | inl deep ↦
          let l = exp-deep m (omega (arith, ints)) in
          let e = exp-none n deep there in
          rw e l
      | inr low ↦
          let b = exp-below n low in
          let known = rw b at there in
          elim (cases_lt 26000000 (suc m)) [
            | inl deep ↦ (let l = exp-deep m deep in let k = to_cell-least _ known in rw b (omega (arith, ints, l, k)))
            | inr also ↦
                let a = exp-below m also in
                let w = whole-rise (suc n) (suc m) (omega (arith, ints)) in
                let f = near-fall (MILLION * MILLION * GRAIN) (whole (suc n)) (whole (suc m)) (omega (arith, whole-least (suc n))) w in
                rw (a, b) (below _ _ f known)
          ]
    ]
