-- The first session of a period: it is no later than the sessions of the period, and later data doesn't
-- change it.
use Rattle.std.proofs.Common.{◌≡◌, ℕ, zero, suc, ◌+◌, ◌≤◌, Bool, true, false, cond, not, ℤ, pos, negsuc, ◌≤ℤ◌, List, [], ◌∷◌, Option, Some, None, option_map, unwrap_or, refl, sym, ◌∙◌, ap, arith, slice_get}
use Rattle.std.specs.List.{position_or_len}
use Rattle.std.proofs.lemmas.Int.{ints}
use Rattle.pl_spec.specs.declared.Frequency.{Frequency}
use Rattle.pl_spec.specs.Periods.{period, same_period, first_session, period_start}
use Rattle.pl_spec.proofs.Signed.{int_eq-itself}

-- what passes at place d has its first place no later
pub first_within : (p : ℤ → Bool) (xs : List ℤ) (d : ℕ) (x : ℤ) → slice_get xs d ≡ Some x → p x ≡ true → position_or_len p xs ≤ d
first_within p [] d x e t = cc
first_within p (y ∷ ys) d x e t = here (p y) refl d e (λ i f. first_within p ys i x f t)
  where
    here : (b : Bool) → p y ≡ b → (d : ℕ) → slice_get (y ∷ ys) d ≡ Some x → ((i : ℕ) → slice_get ys i ≡ Some x → position_or_len p ys ≤ i)
        → cond (not b) (1 + position_or_len p ys) 0 ≤ d
    here true q d e behind = omega arith
    here false q zero e behind = let same : y ≡ x = cc in let bad : true ≡ false = sym t ∙ ap p (sym same) ∙ q in cc
    here false q (suc d) e behind = let rest : position_or_len p ys ≤ d = behind d e in omega arith

-- and the lists that are the same up to that place have it at one place
first_same : (p : ℤ → Bool) (xs ys : List ℤ) (d : ℕ) (x : ℤ) → ((i : ℕ) → i ≤ d → slice_get xs i ≡ slice_get ys i) → slice_get xs d ≡ Some x → p x ≡ true
    → position_or_len p xs ≡ position_or_len p ys
first_same p [] ys d x same e t = cc
first_same p (z ∷ zs) [] d x same e t = let bad : Some z ≡ None = same 0 (omega arith) in cc
first_same p (z ∷ zs) (y ∷ ys) d x same e t =
    let first : Some z ≡ Some y = same 0 (omega arith) in
    let front : z ≡ y = cc in
    here (p z) refl d e same (λ i f h. first_same p zs ys i x h f t) ∙ ap (λ v. cond (not (p v)) (1 + position_or_len p ys) 0) front
  where
    here : (b : Bool) → p z ≡ b → (d : ℕ) → slice_get (z ∷ zs) d ≡ Some x → ((i : ℕ) → i ≤ d → slice_get (z ∷ zs) i ≡ slice_get (y ∷ ys) i)
        → ((i : ℕ) → slice_get zs i ≡ Some x → ((j : ℕ) → j ≤ i → slice_get zs j ≡ slice_get ys j) → position_or_len p zs ≡ position_or_len p ys)
        → cond (not (p z)) (1 + position_or_len p zs) 0 ≡ cond (not (p z)) (1 + position_or_len p ys) 0
    here true q d e same behind = rw q refl
    here false q zero e same behind = let is : z ≡ x = cc in let bad : true ≡ false = sym t ∙ ap p (sym is) ∙ q in cc
    here false q (suc d) e same behind = rw q (ap (λ n. 1 + n) (behind d e (λ i l. same (suc i) (omega arith))))

pub start-within : (f : Frequency) (days : List ℤ) (d : ℤ) → period_start f days d ≤ℤ d
unfolding period_start
start-within f days (negsuc d) = omega (arith, ints)
start-within f days (pos d) = here (slice_get days d) refl
  where
    here : (o : Option ℤ) → slice_get days d ≡ o → unwrap_or (option_map (λ day. pos (first_session f days day)) o) (pos d) ≤ℤ pos d
    here None e = omega (arith, ints)
    here (Some day) e = let within : first_session f days day ≤ d = first_within (same_period f day) days d day e (int_eq-itself (period f day)) in omega (arith, ints)

pub start-same : (f : Frequency) (days other : List ℤ) (d : ℤ) → ((i : ℕ) → pos i ≤ℤ d → slice_get days i ≡ slice_get other i)
    → period_start f days d ≡ period_start f other d
unfolding period_start
start-same f days other (negsuc d) same = refl
start-same f days other (pos d) same = here (slice_get days d) refl ∙ ap (λ o. unwrap_or (option_map (λ day. pos (first_session f other day)) o) (pos d)) (same d (omega (arith, ints)))
  where
    here : (o : Option ℤ) → slice_get days d ≡ o
        → unwrap_or (option_map (λ day. pos (first_session f days day)) o) (pos d) ≡ unwrap_or (option_map (λ day. pos (first_session f other day)) o) (pos d)
    here None e = refl
    here (Some day) e = ap pos (first_same (same_period f day) days other d day (λ i l. same i (omega (arith, ints))) e (int_eq-itself (period f day)))
