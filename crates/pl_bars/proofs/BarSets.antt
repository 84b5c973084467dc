-- A bit for each column and session.
use Rattle.std.proofs.Common.{◌≡◌, ◌≢◌, ℕ, ◌+◌, ◌*◌, ◌/◌, ◌%◌, ◌^◌, ◌<◌, ◌==◌, ◌&&◌, ◌||◌, Bool, true, false, List, [], ◌∷◌, ◌++◌, length, get_or, bit_or, refl, sym, ◌∙◌, ap, arith, w64, eq-eqb, eqb-true}
use Rattle.std.specs.Int.{bit_at}
use Rattle.std.specs.List.{list_any}
use Rattle.std.proofs.lemmas.List.Folds.{list_any-append}
use Rattle.std.proofs.Math.ListN.{set}
use Rattle.std.proofs.lemmas.List.{get_or-set_same, get_or-set_other}
use Rattle.std.proofs.lemmas.Nat.{div-mul-add}
use Rattle.std.proofs.lemmas.Nat.Bits.{bit_at_set_same, bit_at_set_other}
use Rattle.std.proofs.Math.Bool.{or-true, or-false}
use Rattle.pl_spec.specs.declared.BarRow.{BarRow}
use Rattle.pl_bars.specs.Bars.{is_at}
use Rattle.pl_bars.specs.declared.bar_set.BarSet.{BarSet}
use Rattle.pl_bars.specs.BarSet.{bit_in, has_bar, AreBarsIn}

-- ---- columns and sessions have places of their own

one_col : (n a b c d : ℕ) → b < n → d < n → a * n + b ≡ c * n + d → a ≡ c
one_col n a b c d h l e = sym (div-mul-add a n b h) ∙ ap (λ x. x / n) e ∙ div-mul-add c n d l

one_session : (n a b c d : ℕ) → b < n → d < n → a * n + b ≡ c * n + d → b ≡ d
one_session n a b c d h l e = let q : a * n ≡ c * n = ap (λ x. x * n) (one_col n a b c d h l e) in omega arith

pub same_place : (n col session c s : ℕ) → session < n → s < n → (col * n + session == c * n + s) ≡ (col == c && session == s)
same_place n col session c s h l = here (col * n + session == c * n + s) refl
  where
    joined : (x y : Bool) → x ≡ true → y ≡ true → true ≡ (x && y)
    joined x y e f = rw (e, f) refl

    apart : (x y : Bool) → (x ≡ true → y ≡ true → ⊥) → false ≡ (x && y)
    apart true true f = absurd (f refl refl)
    apart true false f = refl
    apart false y f = refl

    here : (b : Bool) → (col * n + session == c * n + s) ≡ b → b ≡ (col == c && session == s)
    here true t =
        let e : col * n + session ≡ c * n + s = eqb-true _ _ t in
        joined (col == c) (session == s) (eq-eqb _ _ (one_col n col session c s h l e)) (eq-eqb _ _ (one_session n col session c s h l e))
    here false t =
        apart (col == c) (session == s) (λ a b.
        let e : col ≡ c = eqb-true _ _ a in
        let f : session ≡ s = eqb-true _ _ b in
        let same : col * n + session ≡ c * n + s = ap (λ x. x * n + session) e ∙ ap (λ x. c * n + x) f in
        let yes_ : true ≡ false = sym (eq-eqb _ _ same) ∙ t in absurd (let bad : true ≡ false = yes_ in cc))

-- ---- one bit more

with_bit : List ℕ → ℕ → List ℕ
with_bit words k = set words (k / 64) (bit_or (get_or words (k / 64) 0) (1 * 2 ^ (k % 64) % 2 ^ 64))

bit_in-same : (words : List ℕ) (k : ℕ) → k / 64 < length words → bit_in (with_bit words k) k ≡ true
unfolding with_bit
bit_in-same words k h =
    let n = get_or words (k / 64) 0 in
    let w = bit_or n (1 * 2 ^ (k % 64) % 2 ^ 64) in
    let word : get_or (set words (k / 64) w) (k / 64) 0 ≡ w = get_or-set_same words (k / 64) w 0 h in
    let within : k % 64 < 64 = omega arith in
    ap (λ x. bit_at x (k % 64) == 1) word ∙ ap (λ b. b == 1) (bit_at_set_same w64 n (k % 64) within)

bit_in-other : (words : List ℕ) (k j : ℕ) → k / 64 < length words → j ≢ k → bit_in (with_bit words k) j ≡ bit_in words j
unfolding with_bit
bit_in-other words k j h ne = here (j / 64 == k / 64) refl
  where
    n : ℕ
    n = get_or words (k / 64) 0

    w : ℕ
    w = bit_or n (1 * 2 ^ (k % 64) % 2 ^ 64)

    here : (b : Bool) → (j / 64 == k / 64) ≡ b → bit_in (set words (k / 64) w) j ≡ bit_in words j
    here true t =
        let e : j / 64 ≡ k / 64 = eqb-true _ _ t in
        let within : k % 64 < 64 = omega arith in
        let apart : j % 64 ≢ k % 64 = λ s. ne (omega arith) in
        let word : get_or (set words (k / 64) w) (j / 64) 0 ≡ w = ap (λ i. get_or (set words (k / 64) w) i 0) e ∙ get_or-set_same words (k / 64) w 0 h in
        ap (λ x. bit_at x (j % 64) == 1) word ∙ ap (λ b. b == 1) (bit_at_set_other w64 n (k % 64) within (j % 64) apart)
        ∙ ap (λ i. bit_at (get_or words i 0) (j % 64) == 1) (sym e)
    here false t =
        let other : j / 64 ≢ k / 64 = λ e. absurd (let bad : true ≡ false = sym (eq-eqb _ _ e) ∙ t in cc) in
        ap (λ x. bit_at x (j % 64) == 1) (get_or-set_other words (k / 64) (j / 64) w 0 other)

pub bit_in-with_bit : (words : List ℕ) (k j : ℕ) → k / 64 < length words
    → bit_in (set words (k / 64) (bit_or (get_or words (k / 64) 0) (1 * 2 ^ (k % 64) % 2 ^ 64))) j ≡ (bit_in words j || (k == j))
unfolding with_bit
bit_in-with_bit words k j h = here (k == j) refl
  where
    here : (b : Bool) → (k == j) ≡ b → bit_in (with_bit words k) j ≡ (bit_in words j || b)
    here true t = let e : k ≡ j = eqb-true _ _ t in ap (bit_in (with_bit words k)) (sym e) ∙ bit_in-same words k h ∙ sym (or-true (bit_in words j))
    here false t =
        let ne : j ≢ k = λ e. absurd (let bad : true ≡ false = sym (eq-eqb _ _ (sym e)) ∙ t in cc) in
        bit_in-other words k j h ne ∙ sym (or-false (bit_in words j))

-- ---- one bar more

pub AreBarsIn-more : (old new : BarSet) (n m : ℕ) (rows : List BarRow) (b : BarRow) → AreBarsIn old n m rows → new.cols ≡ old.cols → new.sessions ≡ old.sessions
    → ((c s : ℕ) → s < old.sessions → has_bar new c s ≡ (has_bar old c s || (b.col == c && b.session == s))) → AreBarsIn new n m (rows ++ b ∷ [])
AreBarsIn-more old new n m rows b h cols sessions more = record {
  cols = cols ∙ h.cols;
  sessions = sessions ∙ h.sessions;
  each = λ c s k l.
      more c s (rw h.sessions l) ∙ ap (λ x. x || is_at c s b) (h.each c s k l)
      ∙ ap (λ x. list_any (is_at c s) rows || x) (sym (or-false (is_at c s b))) ∙ sym (list_any-append (is_at c s) rows (b ∷ []));
}
