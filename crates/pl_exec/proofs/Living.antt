-- One live term more, and one that is released.
use Rattle.std.proofs.Common.{◌≡◌, ◌≢◌, ℕ, ◌+◌, ◌<◌, ◌≤◌, Bool, true, false, ◌&&◌, not, nat_le, nat_lt, ◌==◌, max, List, length, get_or, refl, sym, ◌∙◌, ap, arith, inl, inr, ℤ, Option, Some, None, lt-ltb}
use Rattle.std.specs.List.{range_with_len, count_by}
use Rattle.std.proofs.lemmas.Bool.{and_parts, cases_eq, cases_lt, true≢false, eqb-true}
use Rattle.std.proofs.lemmas.Bool.Decides.{nat_tests}
use Rattle.pl_workspace.specs.Slots.{Slots, Slot, Free, Begun, Live, slot_at, with_slot, live_count, in_use}
use Rattle.std.proofs.lemmas.List.{get_or_default}
use Rattle.std.proofs.lemmas.List.Sums.{sum_by-le}
use Rattle.std.proofs.Math.Bool.{and-false, and-true}
use Rattle.pl_exec.specs.Slotted.{AreLive, AreApart, kept, left, ends_at}
use Rattle.pl_planner.specs.Plans.{is_read_by}
use Rattle.pl_planner.proofs.Counting.{count_more}
use Rattle.pl_planner.specs.Slotting.{one}
use Rattle.pl_exec.proofs.Counts.{count_below, count_changed}
use Rattle.pl_exec.proofs.Trips.{now_used, there, elsewhere, long, stay_count, in_second}

module _ (slot : ℕ → ℕ) (fact : ℕ → List ℤ → Type 0) where
  -- term n is begun, computed and finished
  pub one_more : (live : ℕ → Bool) (n columns : ℕ) (w w1 w2 w3 : Slots) (cells : List ℤ) → AreLive slot fact live n w → live n ≡ true → AreApart slot live (n + 1) → slot n < length w.slots
      → w1 ≡ with_slot w (slot n) Begun → w2.slots ≡ w1.slots → w2.peak ≡ max w1.peak (live_count w1.slots + columns) → w3 ≡ with_slot w2 (slot n) (Live cells) → fact n cells
      → AreLive slot fact live (n + 1) w3
  one_more live n columns w w1 w2 w3 cells so_far own apart within begun same peak finished holds = record {
    held = λ t h l. elim (cases_eq t n) [
      | inl p ↦ rw p (record { cells = cells; is = there w2 w3 (slot n) (Live cells) finished (in_second w w1 w2 w3 (slot n) columns cells free within begun same peak finished); holds = holds })
      | inr p ↦ (let old = so_far.held t (omega arith) l in record { cells = old.cells; is = other (slot t) (λ e. p (apart t n h (omega arith) l own e)) ∙ old.is; holds = old.holds })
    ];
    free = λ s h none. other s (λ e. none n (omega arith) own (sym e)) ∙ so_far.free s (let a = all_long in omega arith) (λ t l b. none t (omega arith) b);
    count = (let u = stay_count w w1 w2 w3 (slot n) columns cells free within begun same peak finished in
        let c = so_far.count in
        let m : count_by live (range_with_len 0 (n + 1)) ≡ count_by live (range_with_len 0 n) + one (live n) = count_more live n in
        let o : one (live n) ≡ 1 = ap one own in
        omega arith);
  }
    where
      free : slot_at w (slot n) ≡ Free
      free = so_far.free (slot n) within (λ t h l e. let i = apart t n (omega arith) (omega arith) l own e in omega arith)

      all_long : length w3.slots ≡ length w.slots
      all_long = let c = long w2 w3 (slot n) (Live cells) finished in let a : length w2.slots ≡ length w1.slots = ap (λ l. length l) same in let b = long w w1 (slot n) Begun begun in omega arith

      other : (s : ℕ) → s ≢ slot n → slot_at w3 s ≡ slot_at w s
      other s ne = elsewhere w2 w3 (slot n) s (Live cells) finished ne ∙ ap (λ l. get_or l s Begun) same ∙ elsewhere w w1 (slot n) s Begun begun ne

  -- term t is released
  pub one_less : (p q : ℕ → Bool) (t n : ℕ) (w v : Slots) → AreLive slot fact p n w → t < n → p t ≡ true → q t ≡ false → ((j : ℕ) → j ≢ t → p j ≡ q j) → AreApart slot p n
      → slot t < length w.slots → v ≡ with_slot w (slot t) Free → AreLive slot fact q n v
  one_less p q t n w v so_far low was is same apart within released = record {
    held = λ j h l. elim (cases_eq j t) [
      | inl e ↦ absurd (true≢false (sym l ∙ ap q e ∙ is))
      | inr ne ↦ (let b : p j ≡ true = same j ne ∙ l in let old = so_far.held j h b in
          record { cells = old.cells; is = elsewhere w v (slot t) (slot j) Free released (λ e. ne (apart j t h low b was e)) ∙ old.is; holds = old.holds })
    ];
    free = λ s h none. elim (cases_eq s (slot t)) [
      | inl e ↦ rw e (there w v (slot t) Free released within)
      | inr ne ↦ (elsewhere w v (slot t) s Free released ne ∙ so_far.free s (let a = long w v (slot t) Free released in omega arith)
          (λ j l b e. elim (cases_eq j t) [ inl i ↦ ne (sym e ∙ ap slot i) | inr i ↦ none j l (sym (same j i) ∙ b) e ]))
    ];
    count = (let h = so_far.held t low was in
        let u = now_used w v (slot t) Free (Live h.cells) released h.is within in
        let c = so_far.count in
        let d = count_changed p q t n low same in
        let x : one (p t) ≡ 1 = ap one was in
        let y : one (q t) ≡ 0 = ap one is in
        omega arith);
  }

  -- a workspace with all slots free holds no term
  pub none_yet : (live : ℕ → Bool) (w : Slots) → ((s : ℕ) → s < length w.slots → slot_at w s ≡ Free) → live_count w.slots ≡ 0 → AreLive slot fact live 0 w
  none_yet live w free none = record { held = λ t h l. absurd (omega arith); free = λ s h n. free s h; count = none }

  -- the test may be another that is the same for the terms below n
  pub live_below : (p q : ℕ → Bool) (n : ℕ) (w : Slots) → ((j : ℕ) → j < n → p j ≡ q j) → AreLive slot fact p n w → AreLive slot fact q n w
  live_below p q n w h a = record {
    held = λ t l b. a.held t l (h t l ∙ b);
    free = λ s l none. a.free s l (λ t m b. none t m (sym (h t m) ∙ b));
    count = a.count ∙ count_below p q n h;
  }

  -- a term that isn't live changes nothing
  pub live_skipped : (p : ℕ → Bool) (n : ℕ) (w : Slots) → p n ≡ false → AreLive slot fact p n w → AreLive slot fact p (n + 1) w
  live_skipped p n w off a = record {
    held = λ t l b. elim (cases_eq t n) [
      | inl e ↦ absurd (true≢false (sym b ∙ ap p e ∙ off))
      | inr e ↦ a.held t (omega arith) b
    ];
    free = λ s l none. a.free s l (λ t m b. none t (omega arith) b);
    count = (let c = a.count in
        let m : count_by p (range_with_len 0 (n + 1)) ≡ count_by p (range_with_len 0 n) + one (p n) = count_more p n in
        let o : one (p n) ≡ 0 = ap one off in
        omega arith);
  }

-- free slots count nothing
pub none_counted : (slots : List Slot) → ((s : ℕ) → s < length slots → get_or slots s Begun ≡ Free) → live_count slots ≡ 0
none_counted slots free = let l = sum_by-le in_use 0 slots (λ k d h. let e : get_or slots k d ≡ Free = get_or_default slots k d Begun h ∙ free k h in rw e (omega arith)) in omega (arith, l)

-- with a term more there are no more in use than the peak
pub one_counted : (live : ℕ → Bool) (k columns old new peak before : ℕ) → live k ≡ true → old ≡ count_by live (range_with_len 0 k) → new ≡ count_by live (range_with_len 0 (k + 1)) → peak ≡ max before (old + 1 + columns) → new ≤ peak
one_counted live k columns old new peak before own a b p =
    let m : count_by live (range_with_len 0 (k + 1)) ≡ count_by live (range_with_len 0 k) + one (live k) = count_more live k in
    let o : one (live k) ≡ 1 = ap one own in
    omega arith

-- ---- from one term to the next, by last users

lt_self : (a : ℕ) → nat_lt a a ≡ false
lt_self a = grind (arith, nat_tests)

lt_next : (a : ℕ) → nat_lt a (a + 1) ≡ true
lt_next a = grind (arith, nat_tests)

lt_zero : (a : ℕ) → nat_lt a 0 ≡ false
lt_zero a = grind (arith, nat_tests)

lt_same : (j t : ℕ) → j ≢ t → nat_lt j t ≡ nat_lt j (t + 1)
lt_same j t ne = elim (cases_lt j t) [
  | inl p ↦ (let a : nat_lt j t ≡ true = grind (arith, nat_tests) in let b : nat_lt j (t + 1) ≡ true = grind (arith, nat_tests) in a ∙ sym b)
  | inr p ↦ (let q : t < j = omega arith in let a : nat_lt j t ≡ false = grind (arith, nat_tests) in let b : nat_lt j (t + 1) ≡ false = grind (arith, nat_tests) in a ∙ sym b)
]

le_next : (k l : ℕ) → k ≢ l → nat_le k l ≡ nat_le (k + 1) l
le_next k l ne = elim (cases_lt k l) [
  | inl p ↦ (let a : nat_le k l ≡ true = grind (arith, nat_tests) in let b : nat_le (k + 1) l ≡ true = grind (arith, nat_tests) in a ∙ sym b)
  | inr p ↦ (let q : l < k = omega arith in let a : nat_le k l ≡ false = grind (arith, nat_tests) in let b : nat_le (k + 1) l ≡ false = grind (arith, nat_tests) in a ∙ sym b)
]

-- read up to k, and not last by it: read up to the next
reads_on : (o : Option ℕ) (k : ℕ) → ends_at o k ≡ false → is_read_by o k ≡ is_read_by o (k + 1)
reads_on None k e = refl
reads_on (Some l) k e = le_next k l (λ p. true≢false (sym (self l k (sym p)) ∙ e))
  where
    self : (a b : ℕ) → a ≡ b → (a == b) ≡ true
    self a b e = grind (arith, nat_tests)

ends_on : (o : Option ℕ) (k : ℕ) → ends_at o k ≡ true → is_read_by o (k + 1) ≡ false
ends_on None k e = absurd (true≢false (sym e))
ends_on (Some l) k e = let p = eqb-true l k e in let f : nat_le (k + 1) l ≡ false = grind (arith, nat_tests) in f

ends_now : (o : Option ℕ) (k : ℕ) → ends_at o k ≡ true → is_read_by o k ≡ true
ends_now None k e = absurd (true≢false (sym e))
ends_now (Some l) k e = let p = eqb-true l k e in let f : nat_le k l ≡ true = grind (arith, nat_tests) in f

module _ (used : ℕ → Bool) (last : ℕ → Option ℕ) (k : ℕ) where
  pub left_at_first : (j : ℕ) → left used last k 0 j ≡ kept used last k j
  left_at_first j = rw (lt_zero j) (and-true (kept used last k j))

  pub left_kept : (t j : ℕ) → left used last k t j ≡ true → left used last k 0 j ≡ true
  left_kept t j h = left_at_first j ∙ (and_parts (kept used last k j) (not (nat_lt j t && ends_at (last j) k)) h).0

  pub left_else : (t j : ℕ) → j ≢ t → left used last k t j ≡ left used last k (t + 1) j
  left_else t j ne = ap (λ b. kept used last k j && not (b && ends_at (last j) k)) (lt_same j t ne)

  pub left_was : (t : ℕ) → used t ≡ true → ends_at (last t) k ≡ true → left used last k t t ≡ true
  left_was t u e = rw (u, ends_now (last t) k e, lt_self t) refl

  pub left_is : (t : ℕ) → used t ≡ true → ends_at (last t) k ≡ true → left used last k (t + 1) t ≡ false
  left_is t u e = rw (u, ends_now (last t) k e, lt_next t, e) refl

  -- a term that does not end is as it was
  pub left_same : (t : ℕ) → (used t ≡ true → ends_at (last t) k ≡ true → ⊥) → (j : ℕ) → left used last k t j ≡ left used last k (t + 1) j
  left_same t never j = elim (cases_eq j t) [
    | inr p ↦ left_else t j p
    | inl p ↦ here (used j) refl (ends_at (last j) k) refl p
  ]
    where
      no_matter : (a b c : Bool) → (a && not (b && false)) ≡ (a && not (c && false))
      no_matter a true true = refl
      no_matter a true false = refl
      no_matter a false true = refl
      no_matter a false false = refl

      here : (u : Bool) → used j ≡ u → (l : Bool) → ends_at (last j) k ≡ l → j ≡ t → left used last k t j ≡ left used last k (t + 1) j
      here false e l f p = rw e refl
      here true e true f p = absurd (never (ap used (sym p) ∙ e) (ap (λ m. ends_at (last m) k) (sym p) ∙ f))
      here true e false f p = rw (e, f) (no_matter (is_read_by (last j) k) (nat_lt j t) (nat_lt j (t + 1)))

  -- after an unused term the same terms are kept, since no used term is read last by it
  pub kept_skipped : ((t : ℕ) → used t ≡ true → ends_at (last t) k ≡ true → ⊥) → (j : ℕ) → kept used last k j ≡ kept used last (k + 1) j
  kept_skipped unread j = here (used j) refl (ends_at (last j) k) refl
    where
      here : (b : Bool) → used j ≡ b → (l : Bool) → ends_at (last j) k ≡ l → kept used last k j ≡ kept used last (k + 1) j
      here false e l f = rw e refl
      here true e true f = absurd (unread j e f)
      here true e false f = ap (λ b. used j && b) (reads_on (last j) k f)

  -- what is left after term k is what is kept for the next
  pub left_at_last : (j : ℕ) → j < k + 1 → left used last k (k + 1) j ≡ kept used last (k + 1) j
  left_at_last j h = here (used j) refl (ends_at (last j) k) refl
    where
      here : (u : Bool) → used j ≡ u → (l : Bool) → ends_at (last j) k ≡ l → left used last k (k + 1) j ≡ kept used last (k + 1) j
      here false e l f = rw e refl
      here true e true f = rw (e, lt-ltb j (k + 1) h, f, ends_on (last j) k f) (and-false (is_read_by (last j) k))
      here true e false f = rw (e, lt-ltb j (k + 1) h, f) (and-true (is_read_by (last j) k) ∙ reads_on (last j) k f)
