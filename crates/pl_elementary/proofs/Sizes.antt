-- The size of a number is told by its leading gap.
use Rattle.std.proofs.Common.{◌≡◌, ℕ, zero, suc, ◌+◌, ◌-◌, ◌*◌, ◌/◌, ◌%◌, ◌^◌, ◌<◌, ◌≤◌, nat_lt, true, false, inl, inr, refl, ap, ◌∙◌, arith}
use Rattle.std.specs.Int.Count.{count_leading_zeros}
use Rattle.std.proofs.Math.Nat.{pow-suc, pow-le-pow_right, mod-eq_of_lt}
use Rattle.std.proofs.lemmas.Nat.{leading_top, shl_below}
use Rattle.std.proofs.lemmas.Bool.{cases_lt}
use Rattle.std.proofs.lemmas.Bool.Decides.{nat_tests}
use Rattle.pl_spec.specs.Rounding.{LIMIT}
use Rattle.pl_pipeline.specs.Elementary.{size_by}

-- 2 ^ j is the greatest power of 2 that is at most v
size-is : (n v j : ℕ) → 2 ^ j ≤ v → v < 2 ^ suc j → j ≤ n → size_by n v ≡ j
unfolding size_by
size-is zero v j low high few = omega arith
size-is (suc n) v zero low high few =
    let h : v < 2 = omega (arith, pow-suc 2 0) in
    let t : nat_lt v 2 ≡ true = grind (arith, nat_tests) in
    rw t refl
size-is (suc n) v (suc i) low high few =
    let p : 2 ^ suc i ≡ 2 ^ i * 2 = pow-suc 2 i in
    let q : 2 ^ suc (suc i) ≡ 2 ^ suc i * 2 = pow-suc 2 (suc i) in
    let one : 1 ≤ 2 ^ i = pow-le-pow_right {n = 2} (omega arith) {i = 0} {j = i} (omega arith) in
    let h : 2 ≤ v = omega arith in
    let t : nat_lt v 2 ≡ false = grind (arith, nat_tests) in
    let e = size-is n (v / 2) i (omega arith) (omega arith) (omega arith) in
    rw (t, e) refl

pub record IsSized (v gap : ℕ) : Type 0 where
  pub size : 63 - gap ≡ size_by 57 v
  pub few : size_by 57 v < 57
  pub low : 2 ^ size_by 57 v ≤ v
  pub high : v < 2 ^ suc (size_by 57 v)
  pub fits : v * 2 ^ (62 - size_by 57 v) < 2 ^ 63

pub sized : (v : ℕ) → 0 < v → v ≤ LIMIT → IsSized v (count_leading_zeros 64 v)
sized v some small = here (leading_top 64 v some (omega arith))
  where
    below : (j : ℕ) → 2 ^ j ≤ v → j < 57
    below j low =
        elim (cases_lt j 57) [
          | inl less ↦ less
          | inr over ↦ absurd (let p = pow-le-pow_right {n = 2} (omega arith) {i = 57} {j = j} over in omega arith)
        ]

    here : (j : ℕ) × (count_leading_zeros 64 v + suc j ≡ 64) × (2 ^ j ≤ v) × (v < 2 ^ suc j) → IsSized v (count_leading_zeros 64 v)
    here h =
        let less : h.0 < 57 = below h.0 h.2 in
        let e : size_by 57 v ≡ h.0 = size-is 57 v h.0 h.2 h.3 (omega arith) in
        let whole : suc h.0 + (62 - h.0) ≡ 63 = omega arith in
        record {
          size = rw e (omega (arith, h.1));
          few = rw e less;
          low = rw e h.2;
          high = rw e h.3;
          fits = rw e (rw whole at (shl_below v (suc h.0) (62 - h.0) h.3));
        }

-- nothing is shifted out
pub moved : (v gap : ℕ) → IsSized v gap → v * 2 ^ (62 - (63 - gap)) % 2 ^ 64 ≡ v * 2 ^ (62 - size_by 57 v)
moved v gap h =
    let whole : v * 2 ^ (62 - size_by 57 v) % 2 ^ 64 ≡ v * 2 ^ (62 - size_by 57 v) = mod-eq_of_lt (omega (arith, h.fits)) in
    ap (λ n. v * 2 ^ (62 - n) % 2 ^ 64) h.size ∙ whole
