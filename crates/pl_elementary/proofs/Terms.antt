-- The terms of the series are small, and none follows one that is 0.
use Rattle.std.proofs.Common.{◌≡◌, ℕ, zero, suc, ◌+◌, ◌-◌, ◌*◌, ◌/◌, ◌^◌, ◌<◌, ◌≤◌, nat_lt, Bool, true, ◌&&◌, inl, inr, refl, ap, ◌∙◌, arith}
use Rattle.std.proofs.lemmas.Nat.{mul-le, le-div}
use Rattle.std.proofs.Math.Nat.{div-mul-le_self}
use Rattle.std.proofs.lemmas.Bool.{and_parts, and_from, cases_lt}
use Rattle.std.proofs.lemmas.Bool.Decides.{nat_tests}
use Rattle.pl_spec.specs.Rounding.{MILLION}
use Rattle.pl_pipeline.specs.Elementary.{series, GRAIN}

pub no-more : (n k v : ℕ) → series n k 0 v ≡ 0
unfolding series
no-more zero k v = refl
no-more (suc n) k v =
    let e : 0 * v / (MILLION * k) ≡ 0 = omega arith in
    let i = no-more n (suc k) v in
    rw e (omega arith)

-- the next terms, where v is at most 26 million
abbrev pub follows : ℕ → ℕ → ℕ → ℕ
follows k t v = t * v / (MILLION * k)

-- n terms from the k-th on are below 2 ^ 99 at the greatest v
unfoldable pub all-small : ℕ → ℕ → ℕ → Bool
all-small zero k t = true
all-small (suc n) k t = nat_lt t (2 ^ 99) && all-small n (suc k) (follows k t 26000000)

pub first-small : all-small 110 1 (MILLION * GRAIN) ≡ true
unfolding all-small
first-small = refl

div-mono : (a b k : ℕ) → 0 < k → a ≤ b → a / k ≤ b / k
div-mono a b k p h = le-div (a / k) b k p (omega (arith, div-mul-le_self a k))

pub follow-less : (k s t u v : ℕ) → 0 < k → s ≤ t → u ≤ v → follows k s u ≤ follows k t v
follow-less k s t u v p h m = div-mono (s * u) (t * v) (MILLION * k) (omega arith) (mul-le s u t v h m)

smaller : (n k s t : ℕ) → 0 < k → s ≤ t → all-small n k t ≡ true → all-small n k s ≡ true
unfolding all-small
smaller zero k s t p h e = refl
smaller (suc n) k s t p h e =
    let r = and_parts (nat_lt t (2 ^ 99)) (all-small n (suc k) (follows k t 26000000)) e in
    let a : nat_lt s (2 ^ 99) ≡ true = (let z : nat_lt t (2 ^ 99) ≡ true = r.0 in grind (arith, nat_tests)) in
    and_from (nat_lt s (2 ^ 99)) (all-small n (suc k) (follows k s 26000000)) a
    (smaller n (suc k) _ _ (omega arith) (follow-less k s t 26000000 26000000 p h (omega arith)) r.1)

pub one-small : (n k t : ℕ) → all-small (suc n) k t ≡ true → t < 2 ^ 99
unfolding all-small
one-small n k t e =
    let r = and_parts (nat_lt t (2 ^ 99)) (all-small n (suc k) (follows k t 26000000)) e in
    let z : nat_lt t (2 ^ 99) ≡ true = r.0 in
    grind (arith, nat_tests)

pub next-small : (n k t v : ℕ) → 0 < k → v ≤ 26000000 → all-small (suc n) k t ≡ true → all-small n (suc k) (follows k t v) ≡ true
unfolding all-small
next-small n k t v p h e =
    let r = and_parts (nat_lt t (2 ^ 99)) (all-small n (suc k) (follows k t 26000000)) e in
    smaller n (suc k) _ _ (omega arith) (follow-less k t t v 26000000 p (omega arith) h) r.1

-- what the loop keeps: the sum of the terms before the k-th, which is t
pub record IsSum (sum k t v : ℕ) : Type 0 where
  pub some : 0 < k
  pub few : k ≤ 111
  pub all : sum + series (111 - k) k t v ≡ series 110 1 (MILLION * GRAIN) v
  pub small : all-small (111 - k) k t ≡ true
  pub low : sum ≤ (k - 1) * 2 ^ 99

-- one term and the others
pub one-term : (n k t v : ℕ) → series (suc n) k t v ≡ t + series n (suc k) (follows k t v) v
unfolding series
one-term n k t v = refl

no-terms : (k t v : ℕ) → series 0 k t v ≡ 0
unfolding series
no-terms k t v = refl

pub begins : (v : ℕ) → IsSum 0 1 (MILLION * GRAIN) v
begins v = record {
  some = omega arith;
  few = omega arith;
  all = omega arith;
  small = first-small;
  low = omega arith;
}

pub term-small : (sum k t v : ℕ) → k ≤ 110 → IsSum sum k t v → t < 2 ^ 99
term-small sum k t v m h =
    let e : 111 - k ≡ suc (110 - k) = omega arith in
    one-small (110 - k) k t (rw e at h.small)

pub steps : (sum k t v : ℕ) → k ≤ 110 → v ≤ 26000000 → IsSum sum k t v → IsSum (sum + t) (k + 1) (follows k t v) v
steps sum k t v m l h =
    let e : 111 - k ≡ suc (110 - k) = omega arith in
    let f : 111 - (k + 1) ≡ 110 - k = omega arith in
    let g : k + 1 ≡ suc k = omega arith in
    let less = term-small sum k t v m h in
    let o : series (111 - k) k t v ≡ t + series (110 - k) (suc k) (follows k t v) v = ap (λ n. series n k t v) e ∙ one-term (110 - k) k t v in
    let next : series (111 - (k + 1)) (k + 1) (follows k t v) v ≡ series (110 - k) (suc k) (follows k t v) v =
    ap (λ n. series n (k + 1) (follows k t v) v) f ∙ ap (λ j. series (110 - k) j (follows k t v) v) g in
    let small : all-small (111 - (k + 1)) (k + 1) (follows k t v) ≡ true =
    ap (λ n. all-small n (k + 1) (follows k t v)) f ∙ ap (λ j. all-small (110 - k) j (follows k t v)) g
    ∙ next-small (110 - k) k t v h.some l (rw e at h.small) in
    record {
      some = omega arith;
      few = omega arith;
      all = (ap (λ x. sum + t + x) next ∙ shifted sum t (series (110 - k) (suc k) (follows k t v) v) _ o) ∙ h.all;
      small = small;
      low = lower sum k t h.some (omega arith) h.low;
    }
  where
    shifted : (sum t x y : ℕ) → y ≡ t + x → sum + t + x ≡ sum + y
    shifted sum t x y e = omega arith

    lower : (sum k t : ℕ) → 0 < k → t ≤ 2 ^ 99 → sum ≤ (k - 1) * 2 ^ 99 → sum + t ≤ (k + 1 - 1) * 2 ^ 99
    lower sum k t some less low = omega arith

pub ends : (sum k t v : ℕ) → (k ≤ 110 → t ≡ 0) → IsSum sum k t v → sum ≡ series 110 1 (MILLION * GRAIN) v
ends sum k t v none h =
    elim (cases_lt 110 k) [
      | inl over ↦
          let e : 111 - k ≡ 0 = omega (arith, h.few) in
          let o : series (111 - k) k t v ≡ 0 = ap (λ n. series n k t v) e ∙ no-terms k t v in
          plain sum _ o ∙ h.all
      | inr under ↦
          let z : t ≡ 0 = none under in
          let o : series (111 - k) k t v ≡ 0 = ap (λ u. series (111 - k) k u v) z ∙ no-more (111 - k) k v in
          plain sum _ o ∙ h.all
    ]
  where
    plain : (sum x : ℕ) → x ≡ 0 → sum ≡ sum + x
    plain sum x e = omega arith

pub sum-small : (sum k t v : ℕ) → IsSum sum k t v → sum < 2 ^ 110
sum-small sum k t v h = here sum k h.few h.low
  where
    here : (sum k : ℕ) → k ≤ 111 → sum ≤ (k - 1) * 2 ^ 99 → sum < 2 ^ 110
    here sum k few low = omega arith
