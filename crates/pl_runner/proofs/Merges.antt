-- The events of an asset as they come to be known, day by day.
use Rattle.std.proofs.Common.{◌≡◌, ◌≢◌, ℕ, zero, suc, ◌+◌, ◌<◌, ◌≤◌, Bool, true, false, cond, ℤ, ◌<ℤ◌, ◌≤ℤ◌, List, [], ◌∷◌, ◌++◌, map, filter, get_or, All, AllPairs, refl, ◌∙◌, ap, arith, inl, inr}
use Rattle.std.specs.Prelude.{flat_map}
use Rattle.std.specs.List.{range_with_len}
use Rattle.std.specs.Int.RustNames.{int_lt, int_le}
use Rattle.std.proofs.lemmas.Bool.{cases_lt, eq-eqb, ne_eqb}
use Rattle.std.proofs.lemmas.Int.{ints}
use Rattle.std.proofs.lemmas.List.{append-nil}
use Rattle.pl_spec.specs.Agree.{is_known}
use Rattle.pl_spec.specs.Parts.{ColumnAdjustment}
use Rattle.pl_spec.specs.Window.{is_between}
use Rattle.pl_spec.specs.World.{Event}
use Rattle.pl_spec.proofs.Signed.{int_le-false}
use Rattle.pl_adjust.specs.Columns.{events_at}
use Rattle.pl_daily.proofs.Moves.{events_at-append}
use Rattle.pl_runner.specs.Days.{in_col}

-- ---- known by a day, or between two

early_whole : (low high : ℤ) → low ≤ℤ high → (e : Event) → int_le e.day low ≡ true → is_known high e ≡ true
early_whole low high h e p = grind (arith, ints)

early_later : (low high : ℤ) (e : Event) → int_le e.day low ≡ true → is_between low high e ≡ false
early_later low high e p = let q : int_lt low e.day ≡ false = grind (arith, ints) in grind (q, arith)

late : (low high : ℤ) (e : Event) → int_le e.day low ≡ false → is_between low high e ≡ is_known high e
late low high e p = let q : int_lt low e.day ≡ true = grind (arith, ints) in rw q refl

none_known : (low : ℤ) (es : List Event) → All (λ e. low <ℤ e.day) es → filter (is_known low) es ≡ []
none_known low [] h = refl
none_known low (e ∷ es) h =
    let l : low <ℤ e.day = h 0 e (omega arith) in
    let p : is_known low e ≡ false = grind (arith, ints) in
    rw p (none_known low es (λ k d m. h (suc k) d (omega arith)))

pushed_behind : {X : Type 0} (b : Bool) (e : X) (xs ys zs : List X) → xs ≡ ys ++ zs → ys ≡ [] → cond b (e ∷ xs) xs ≡ ys ++ cond b (e ∷ zs) zs
pushed_behind true e xs ys zs h none = rw none (ap (λ l. e ∷ l) (rw none at h))
pushed_behind false e xs ys zs h none = h

pub known-split : (low high : ℤ) → low ≤ℤ high → (es : List Event) → AllPairs (λ e f. e.day ≤ℤ f.day) es
    → filter (is_known high) es ≡ filter (is_known low) es ++ filter (is_between low high) es
known-split low high h [] order = refl
known-split low high h (e ∷ es) order =
    here (int_le e.day low) refl (known-split low high h es (λ i j d l m. order (suc i) (suc j) d (omega arith) (omega arith)))
  where
    here : (b : Bool) → int_le e.day low ≡ b → filter (is_known high) es ≡ filter (is_known low) es ++ filter (is_between low high) es
        → filter (is_known high) (e ∷ es) ≡ filter (is_known low) (e ∷ es) ++ filter (is_between low high) (e ∷ es)
    here true p rest = rw (p, early_later low high e p, early_whole low high h e p) (ap (λ l. e ∷ l) rest)
    here false p rest =
        let q : low <ℤ e.day = int_le-false e.day low p in
        rw (p, late low high e p)
        (pushed_behind (is_known high e) e _ _ _ rest
        (none_known low es (λ k d l.
        let o : e.day ≤ℤ (get_or es k d).day = order 0 (suc k) d (omega arith) (omega arith) in
        omega (arith, ints))))

-- ---- the events of a column among those of all columns

pub own-events : (k : ℕ) (es : List Event) → events_at (map (in_col k) es) k ≡ es
own-events k [] = refl
own-events k (e ∷ es) = rw (eq-eqb k k refl) (ap (λ (l : List Event). e ∷ l) (own-events k es))

no-events : (c k : ℕ) → c ≢ k → (es : List Event) → events_at (map (in_col c) es) k ≡ []
no-events c k h [] = refl
no-events c k h (e ∷ es) = rw (ne_eqb c k h) (no-events c k h es)

module _ (f : ℕ → List Event) (k : ℕ) where
  abbrev all_of : ℕ → ℕ → List ColumnAdjustment
  all_of a n = flat_map (λ c. map (in_col c) (f c)) (range_with_len a n)

  outside : (a n : ℕ) → k < a → events_at (all_of a n) k ≡ []
  outside a zero h = refl
  outside a (suc n) h =
      events_at-append (map (in_col a) (f a)) (all_of (a + 1) n) k
      ∙ ap (λ (l : List Event). l ++ events_at (all_of (a + 1) n) k) (no-events a k (λ e. omega (arith, e)) (f a))
      ∙ outside (a + 1) n (omega arith)

  pub inside : (a n : ℕ) → a ≤ k → k < a + n → events_at (all_of a n) k ≡ f k
  inside a zero l h = absurd (omega arith)
  inside a (suc n) l h = elim (cases_lt a k) [
    | inl less ↦
        events_at-append (map (in_col a) (f a)) (all_of (a + 1) n) k
        ∙ ap (λ (l : List Event). l ++ events_at (all_of (a + 1) n) k) (no-events a k (λ e. omega (arith, e)) (f a))
        ∙ inside (a + 1) n (omega arith) (omega arith)
    | inr not_less ↦ (let same : a ≡ k = omega arith in
        events_at-append (map (in_col a) (f a)) (all_of (a + 1) n) k
        ∙ ap (λ (l : List Event). events_at (map (in_col a) (f a)) k ++ l) (outside (a + 1) n (omega arith))
        ∙ append-nil (events_at (map (in_col a) (f a)) k)
        ∙ ap (λ (j : ℕ). events_at (map (in_col j) (f j)) k) same
        ∙ own-events k (f k))
  ]
