-- Numbers below a bound, counted.
use Rattle.std.proofs.Common.{◌≡◌, ◌≢◌, ℕ, zero, suc, ◌+◌, ◌<◌, Bool, [], ◌∷◌, ◌++◌, refl, sym, ◌∙◌, ap, arith, inl, inr}
use Rattle.std.specs.List.{range_with_len, count_by}
use Rattle.std.proofs.lemmas.Bool.{cases_eq}
use Rattle.pl_spec.proofs.Ranges.{range-next}
use Rattle.pl_planner.proofs.Counting.{count_suc}
use Rattle.pl_planner.specs.Slotting.{one}

pub range_suc : (n : ℕ) → range_with_len 0 (suc n) ≡ range_with_len 0 n ++ n ∷ []
range_suc n = let e : suc n ≡ n + 1 = omega arith in ap (range_with_len 0) e ∙ range-next n

pub count_below : (p q : ℕ → Bool) (n : ℕ) → ((j : ℕ) → j < n → p j ≡ q j) → count_by p (range_with_len 0 n) ≡ count_by q (range_with_len 0 n)
count_below p q zero h = refl
count_below p q (suc n) h =
    let a = count_suc p n in
    let b = count_suc q n in
    let o : one (p n) ≡ one (q n) = ap one (h n (omega arith)) in
    let ih = count_below p q n (λ j l. h j (omega arith)) in
    omega arith

-- a test that changes at one number alone
pub count_changed : (p q : ℕ → Bool) (t n : ℕ) → t < n → ((j : ℕ) → j ≢ t → p j ≡ q j) → count_by q (range_with_len 0 n) + one (p t) ≡ count_by p (range_with_len 0 n) + one (q t)
count_changed p q t zero h same = absurd (omega arith)
count_changed p q t (suc m) h same =
    let a = count_suc q m in
    let b = count_suc p m in
    elim (cases_eq m t) [
      | inl i ↦ (let ih = count_below q p m (λ j l. sym (same j (λ e. omega arith))) in let x : one (q m) ≡ one (q t) = ap (λ k. one (q k)) i in let y : one (p m) ≡ one (p t) = ap (λ k. one (p k)) i in omega arith)
      | inr ne ↦ (let ih = count_changed p q t m (omega arith) same in let e : one (p m) ≡ one (q m) = ap one (same m ne) in omega arith)
    ]
