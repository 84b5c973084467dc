-- Slots that are taken, and the lowest free one.
use Rattle.std.proofs.Common.{◌≡◌, ◌≢◌, ℕ, zero, suc, ◌+◌, ◌*◌, ◌<◌, ◌≤◌, ◌⊎◌, Bool, true, false, ◌||◌, List, [], ◌∷◌, ◌++◌, length, get_or, set, replicate, sum_by, fold, refl, sym, ◌∙◌, ap, subst, arith, inl, inr, get_or-set_same, get_or-set_other, length-set}
use Rattle.std.specs.List.{range_with_len, count_by}
use Rattle.std.proofs.lemmas.Bool.{cases_lt, cases_eq, true≢false, or_cases, or_left, or_right}
use Rattle.std.proofs.lemmas.List.Sums.{sum_by-set}
use Rattle.std.proofs.lemmas.List.{get_or_append_left, get_or_past, get_or_push, length-replicate, length_push}
use Rattle.std.proofs.lemmas.List.Folds.{sum_by-replicate}
use Rattle.pl_spec.specs.Limits.{most_terms}
use Rattle.pl_planner.specs.declared.uses.Use.{Use}
use Rattle.pl_planner.specs.declared.slots.TermSlots.{TermSlots}
use Rattle.pl_planner.specs.Uses.{is_kept}
use Rattle.pl_planner.specs.Slotting.{no_slots, slots_at, own_slot, kept_below, one, IsHad, IsHadBefore, IsLowest, IsSlotted, AreSlotted, Takes, AreMarksOf, IsTaken}
use Rattle.pl_planner.proofs.Counting.{all_same, count_more, one-or}

pub none_taken : (uses : List Use) (slots : List TermSlots) (k : ℕ) (taken : List Bool) → taken ≡ replicate (most_terms + 6) false → IsTaken uses slots k 0 taken
none_taken uses slots k taken e = record {
  size = ap length e ∙ length-replicate (most_terms + 6) false;
  tells = record {
    yes = λ s h. (let l = h.below in absurd (omega arith));
    no = λ s h. absurd (true≢false (sym h ∙ ap (λ l. get_or l s false) e ∙ all_same (most_terms + 6) s false));
  };
  few = (let z : sum_by one taken ≡ (most_terms + 6) * 0 = ap (sum_by one) e ∙ sum_by-replicate one (most_terms + 6) false in omega arith);
}

module _ (uses : List Use) (slots : List TermSlots) (k t : ℕ) (taken : List Bool) (so_far : IsTaken uses slots k t taken) (low : own_slot slots t ≤ most_terms) where
  abbrev told : Bool
  told = get_or taken (own_slot slots t) false || is_kept uses k t

  here : own_slot slots t < length taken
  here = let s = so_far.size in omega arith

  yes : (s : ℕ) → IsHad uses slots k (t + 1) s → get_or (set taken (own_slot slots t) told) s false ≡ true
  yes s h = elim (cases_eq s (own_slot slots t)) [
    | inl e ↦ ap (λ r. get_or (set taken (own_slot slots t) told) r false) e ∙ get_or-set_same taken (own_slot slots t) told false here ∙ both e
    | inr ne ↦ get_or-set_other taken (own_slot slots t) s told false ne ∙ so_far.tells.yes s (earlier ne)
  ]
    where
      below : h.term < t + 1
      below = h.below

      both : s ≡ own_slot slots t → told ≡ true
      both e = elim (cases_lt h.term t) [
        | inl p ↦ or_left _ _ (so_far.tells.yes (own_slot slots t) (record { term = h.term; below = p; kept = h.kept; has = h.has ∙ e }))
        | inr p ↦ (let i : h.term ≡ t = omega arith in or_right _ _ (ap (is_kept uses k) (sym i) ∙ h.kept))
      ]

      earlier : s ≢ own_slot slots t → IsHad uses slots k t s
      earlier ne = elim (cases_lt h.term t) [
        | inl p ↦ record { term = h.term; below = p; kept = h.kept; has = h.has }
        | inr p ↦ absurd (let i : h.term ≡ t = omega arith in ne (sym (ap (own_slot slots) (sym i) ∙ h.has)))
      ]

  no : (s : ℕ) → get_or (set taken (own_slot slots t) told) s false ≡ true → IsHad uses slots k (t + 1) s
  no s h = elim (cases_eq s (own_slot slots t)) [
    | inl e ↦ elim (or_cases (get_or taken (own_slot slots t) false) (is_kept uses k t) (sym (get_or-set_same taken (own_slot slots t) told false here) ∙ ap (λ r. get_or (set taken (own_slot slots t) told) r false) (sym e) ∙ h)) [
      | inl p ↦ wider (so_far.tells.no s (ap (λ r. get_or taken r false) e ∙ p))
      | inr p ↦ record { term = t; below = omega arith; kept = p; has = sym e }
    ]
    | inr ne ↦ wider (so_far.tells.no s (sym (get_or-set_other taken (own_slot slots t) s told false ne) ∙ h))
  ]
    where
      wider : IsHad uses slots k t s → IsHad uses slots k (t + 1) s
      wider i = record { term = i.term; below = (let l = i.below in omega arith); kept = i.kept; has = i.has }

  pub more_taken : IsTaken uses slots k (t + 1) (set taken (own_slot slots t) (get_or taken (own_slot slots t) false || is_kept uses k t))
  more_taken = record {
    size = length-set taken (own_slot slots t) _ ∙ so_far.size;
    tells = record { yes = yes; no = no };
    few = (let s : sum_by one (set taken (own_slot slots t) told) + one (get_or taken (own_slot slots t) false) ≡ sum_by one taken + one told = sum_by-set one taken (own_slot slots t) told false here in
        let c : count_by (is_kept uses k) (range_with_len 0 (t + 1)) ≡ count_by (is_kept uses k) (range_with_len 0 t) + one (is_kept uses k t) = count_more (is_kept uses k) t in
        let f = so_far.few in
        let o : one told ≤ one (get_or taken (own_slot slots t) false) + one (is_kept uses k t) = one-or (get_or taken (own_slot slots t) false) (is_kept uses k t) in
        omega arith);
  }

sum_from : (xs : List Bool) (n : ℕ) → fold (λ a x. a + one x) n xs ≡ n + fold (λ a x. a + one x) 0 xs
sum_from [] n = omega arith
sum_from (x ∷ xs) n =
    let a : fold (λ a x. a + one x) (n + one x) xs ≡ n + one x + fold (λ a x. a + one x) 0 xs = sum_from xs (n + one x) in
    let b : fold (λ a x. a + one x) (0 + one x) xs ≡ 0 + one x + fold (λ a x. a + one x) 0 xs = sum_from xs (0 + one x) in
    a ∙ (let r : n + one x + fold (λ a x. a + one x) 0 xs ≡ n + fold (λ a x. a + one x) (0 + one x) xs = omega arith in r)

-- with all below it taken, a slot is no greater than the number of those that are taken
pub front_taken : (taken : List Bool) (s : ℕ) → ((i : ℕ) → i < s → get_or taken i false ≡ true) → s ≤ sum_by one taken
front_taken taken zero h = omega arith
front_taken [] (suc s) h = absurd (true≢false (sym (h 0 (omega arith))))
front_taken (x ∷ xs) (suc s) h =
    let ih = front_taken xs s (λ i l. h (suc i) (omega arith)) in
    let o : one x ≡ 1 = ap one (h 0 (omega arith)) in
    let c : sum_by one (x ∷ xs) ≡ 0 + one x + sum_by one xs = sum_from xs (0 + one x) in
    omega arith

-- a free slot is taken
pub one_taken : (taken : List Bool) (s : ℕ) → s < length taken → get_or taken s false ≡ false → sum_by one (set taken s true) ≡ sum_by one taken + 1
one_taken taken s h free =
    let c : sum_by one (set taken s true) + one (get_or taken s false) ≡ sum_by one taken + 1 = sum_by-set one taken s true false h in
    let z : one (get_or taken s false) ≡ 0 = ap one free in
    omega arith

count_few : (uses : List Use) (k n : ℕ) → count_by (is_kept uses k) (range_with_len 0 n) ≤ n
count_few uses k zero = omega arith
count_few uses k (suc n) =
    let ih = count_few uses k n in
    let e : suc n ≡ n + 1 = omega arith in
    let c : count_by (is_kept uses k) (range_with_len 0 (suc n)) ≡ count_by (is_kept uses k) (range_with_len 0 n) + one (is_kept uses k n) = ap (λ m. count_by (is_kept uses k) (range_with_len 0 m)) e ∙ count_more (is_kept uses k) n in
    let o = one_few (is_kept uses k n) in
    omega arith
  where
    one_few : (b : Bool) → one b ≤ 1
    one_few true = omega arith
    one_few false = omega arith

-- ---- one slot after another

tells_more : (T : ℕ → Type 0) (taken : List Bool) (slot : ℕ) → AreMarksOf T taken → slot < length taken → AreMarksOf (λ s. T s ⊎ (slot ≡ s)) (set taken slot true)
tells_more T taken slot tells inside = record {
  yes = λ s h. elim h [
    | inl t ↦ elim (cases_eq s slot) [
      | inl e ↦ ap (λ r. get_or (set taken slot true) r false) e ∙ get_or-set_same taken slot true false inside
      | inr ne ↦ get_or-set_other taken slot s true false ne ∙ tells.yes s t
    ]
    | inr e ↦ ap (λ r. get_or (set taken slot true) r false) (sym e) ∙ get_or-set_same taken slot true false inside
  ];
  no = λ s h. elim (cases_eq s slot) [
    | inl e ↦ inr (sym e)
    | inr ne ↦ inl (tells.no s (sym (get_or-set_other taken slot s true false ne) ∙ h))
  ];
}

-- the marks tell which slots are taken, n at most
record Stand (T : ℕ → Type 0) (taken : List Bool) (n : ℕ) : Type 0 where
  pub tells : AreMarksOf T taken
  pub size : length taken ≡ most_terms + 6
  pub few : sum_by one taken ≤ n

module _ (T : ℕ → Type 0) (taken new : List Bool) (n slot : ℕ) (is : Stand T taken n) (takes : Takes taken new slot) where
  low : slot ≤ n
  low = let f = front_taken taken slot takes.before in let m = is.few in omega arith

  lowest : IsLowest T slot
  lowest = record {
    free = λ h. true≢false (sym (is.tells.yes slot h) ∙ takes.free);
    lowest = λ s l. is.tells.no s (takes.before s l);
  }

  next : n < most_terms + 6 → Stand (λ s. T s ⊎ (slot ≡ s)) new (n + 1)
  next few = record {
    tells = subst (AreMarksOf (λ s. T s ⊎ (slot ≡ s))) (sym takes.taken) (tells_more T taken slot is.tells (let l = low in let z = is.size in omega arith));
    size = takes.size ∙ is.size;
    few = (let m = is.few in let e = takes.count in omega arith);
  }

stands_as : (T S : ℕ → Type 0) (taken : List Bool) (n : ℕ) → ((s : ℕ) → T s → S s) → ((s : ℕ) → S s → T s) → Stand T taken n → Stand S taken n
stands_as T S taken n f g is = record { tells = record { yes = λ s h. is.tells.yes s (g s h); no = λ s h. f s (is.tells.no s h) }; size = is.size; few = is.few }

module _ (uses : List Use) (slots : List TermSlots) (k : ℕ) (new : TermSlots) where
  abbrev Before : ℕ → ℕ → Type 0
  Before i s = IsHadBefore uses slots k new i s

  none_before : (s : ℕ) → Before 0 s → IsHad uses slots k k s ⊎ (new.own ≡ s)
  none_before s (inl h) = h
  none_before s (inr r) = absurd (omega (arith, r.1))

  one_before : (i s : ℕ) → Before i s ⊎ (get_or new.columns i 0 ≡ s) → Before (i + 1) s
  one_before i s (inl (inl h)) = inl h
  one_before i s (inl (inr r)) = inr (r.0, omega (arith, r.1), r.2)
  one_before i s (inr e) = inr (i, omega arith, e)

  last_before : (i s : ℕ) → Before (i + 1) s → Before i s ⊎ (get_or new.columns i 0 ≡ s)
  last_before i s (inl h) = inl (inl h)
  last_before i s (inr r) = elim (cases_lt r.0 i) [
    | inl l ↦ inl (inr (r.0, l, r.2))
    | inr l ↦ inr (let e : r.0 ≡ i = omega (arith, r.1, l) in ap (λ j. get_or new.columns j 0) (sym e) ∙ r.2)
  ]

  -- the i-th column takes its slot
  column_taken : (i n : ℕ) (taken after : List Bool) → Stand (Before i) taken n → Takes taken after (get_or new.columns i 0) → n < most_terms + 6 → Stand (Before (i + 1)) after (n + 1)
  column_taken i n taken after is takes few =
      stands_as (λ s. Before i s ⊎ (get_or new.columns i 0 ≡ s)) (Before (i + 1)) after (n + 1) (one_before i) (last_before i) (next (Before i) taken after n (get_or new.columns i 0) is takes few)

pub slotted : (uses : List Use) (slots : List TermSlots) (k : ℕ) (taken t1 t2 t3 t4 t5 t6 : List Bool) (own first second third fourth fifth : ℕ) → IsTaken uses slots k k taken → k < most_terms
    → Takes taken t1 own → Takes t1 t2 first → Takes t2 t3 second → Takes t3 t4 third → Takes t4 t5 fourth → Takes t5 t6 fifth
    → IsSlotted uses slots k (record { own = own; columns = first ∷ second ∷ third ∷ fourth ∷ fifth ∷ [] })
slotted uses slots k taken t1 t2 t3 t4 t5 t6 own first second third fourth fifth is few a b c d e f =
    let new : TermSlots = record { own = own; columns = first ∷ second ∷ third ∷ fourth ∷ fifth ∷ [] } in
    let n = kept_below uses k in
    let m = count_few uses k k in
    let s0 : Stand (IsHad uses slots k k) taken (kept_below uses k) = record { tells = is.tells; size = is.size; few = is.few } in
    let s1 : Stand (IsHadBefore uses slots k new 0) t1 (n + 1) = stands_as _ _ t1 (n + 1) (λ s h. inl h) (none_before uses slots k new) (next _ taken t1 n own s0 a (omega (arith, m))) in
    let s2 : Stand (IsHadBefore uses slots k new 1) t2 (n + 1 + 1) = column_taken uses slots k new 0 (n + 1) t1 t2 s1 b (omega (arith, m)) in
    let s3 : Stand (IsHadBefore uses slots k new 2) t3 (n + 1 + 1 + 1) = column_taken uses slots k new 1 (n + 1 + 1) t2 t3 s2 c (omega (arith, m)) in
    let s4 : Stand (IsHadBefore uses slots k new 3) t4 (n + 1 + 1 + 1 + 1) = column_taken uses slots k new 2 (n + 1 + 1 + 1) t3 t4 s3 d (omega (arith, m)) in
    let s5 : Stand (IsHadBefore uses slots k new 4) t5 (n + 1 + 1 + 1 + 1 + 1) = column_taken uses slots k new 3 (n + 1 + 1 + 1 + 1) t4 t5 s4 e (omega (arith, m)) in
    record {
      own = lowest _ _ _ _ _ s0 a;
      columns = columns (IsHadBefore uses slots k new) (lowest _ _ _ _ _ s1 b) (lowest _ _ _ _ _ s2 c) (lowest _ _ _ _ _ s3 d) (lowest _ _ _ _ _ s4 e) (lowest _ _ _ _ _ s5 f);
      below = low _ _ _ _ _ s0 a;
      columns_below = below n (low _ _ _ _ _ s1 b) (low _ _ _ _ _ s2 c) (low _ _ _ _ _ s3 d) (low _ _ _ _ _ s4 e) (low _ _ _ _ _ s5 f);
    }
  where
    columns : (T : ℕ → ℕ → Type 0) → IsLowest (T 0) first → IsLowest (T 1) second → IsLowest (T 2) third → IsLowest (T 3) fourth → IsLowest (T 4) fifth → (i : ℕ) → i < 5 → IsLowest (T i) (get_or (first ∷ second ∷ third ∷ fourth ∷ fifth ∷ []) i 0)
    columns T l1 l2 l3 l4 l5 zero h = l1
    columns T l1 l2 l3 l4 l5 (suc zero) h = l2
    columns T l1 l2 l3 l4 l5 (suc (suc zero)) h = l3
    columns T l1 l2 l3 l4 l5 (suc (suc (suc zero))) h = l4
    columns T l1 l2 l3 l4 l5 (suc (suc (suc (suc zero)))) h = l5
    columns T l1 l2 l3 l4 l5 (suc (suc (suc (suc (suc i))))) h = absurd (omega arith)

    below : (n : ℕ) → first ≤ n + 1 → second ≤ n + 1 + 1 → third ≤ n + 1 + 1 + 1 → fourth ≤ n + 1 + 1 + 1 + 1 → fifth ≤ n + 1 + 1 + 1 + 1 + 1 → (i : ℕ) → i < 5 → get_or (first ∷ second ∷ third ∷ fourth ∷ fifth ∷ []) i 0 ≤ n + 1 + i
    below n l1 l2 l3 l4 l5 zero h = omega arith
    below n l1 l2 l3 l4 l5 (suc zero) h = omega arith
    below n l1 l2 l3 l4 l5 (suc (suc zero)) h = omega arith
    below n l1 l2 l3 l4 l5 (suc (suc (suc zero))) h = omega arith
    below n l1 l2 l3 l4 l5 (suc (suc (suc (suc zero)))) h = omega arith
    below n l1 l2 l3 l4 l5 (suc (suc (suc (suc (suc i))))) h = absurd (omega arith)

-- there is room for six slots more
pub six_free : (uses : List Use) (slots : List TermSlots) (k : ℕ) (taken : List Bool) → IsTaken uses slots k k taken → k < most_terms → sum_by one taken + 5 < length taken
six_free uses slots k taken is few = omega (arith, is.few, is.size, few, count_few uses k k)

-- ---- the slots of the terms before stay

module _ (uses : List Use) (slots : List TermSlots) (new : TermSlots) where
  had : (k s : ℕ) → k ≤ length slots → IsHad uses slots k k s → IsHad uses (slots ++ new ∷ []) k k s
  had k s h i = record { term = i.term; below = i.below; kept = i.kept; has = ap (λ (x : TermSlots). x.own) (get_or_append_left slots (new ∷ []) no_slots i.term (let l = i.below in omega arith)) ∙ i.has }

  had_back : (k s : ℕ) → k ≤ length slots → IsHad uses (slots ++ new ∷ []) k k s → IsHad uses slots k k s
  had_back k s h i = record { term = i.term; below = i.below; kept = i.kept; has = sym (ap (λ (x : TermSlots). x.own) (get_or_append_left slots (new ∷ []) no_slots i.term (let l = i.below in omega arith))) ∙ i.has }

  same_lowest : (T S : ℕ → Type 0) → ((s : ℕ) → T s → S s) → ((s : ℕ) → S s → T s) → (slot : ℕ) → IsLowest T slot → IsLowest S slot
  same_lowest T S f g slot l = record { free = λ h. l.free (g slot h); lowest = λ s h. f s (l.lowest s h) }

  either_same : (T S Q : ℕ → Type 0) → ((s : ℕ) → T s → S s) → (s : ℕ) → T s ⊎ Q s → S s ⊎ Q s
  either_same T S Q f s (inl h) = inl (f s h)
  either_same T S Q f s (inr e) = inr e

  still_slotted : (k : ℕ) (own : TermSlots) → k ≤ length slots → IsSlotted uses slots k own → IsSlotted uses (slots ++ new ∷ []) k own
  still_slotted k own h is = record {
    own = same_lowest (IsHad uses slots k k) (IsHad uses (slots ++ new ∷ []) k k) f g own.own is.own;
    columns = λ i h. same_lowest (IsHadBefore uses slots k own i) (IsHadBefore uses (slots ++ new ∷ []) k own i) (either_same _ _ (Before i) (either_same _ _ (λ s. own.own ≡ s) f))
        (either_same _ _ (Before i) (either_same _ _ (λ s. own.own ≡ s) g)) _ (is.columns i h);
    below = is.below;
    columns_below = is.columns_below;
  }
    where
      f : (s : ℕ) → IsHad uses slots k k s → IsHad uses (slots ++ new ∷ []) k k s
      f s = had k s h

      g : (s : ℕ) → IsHad uses (slots ++ new ∷ []) k k s → IsHad uses slots k k s
      g s = had_back k s h

      Before : ℕ → ℕ → Type 0
      Before i s = (j : ℕ) × (j < i) × (get_or own.columns j 0 ≡ s)

  pub more_slotted : length slots < most_terms → AreSlotted uses slots → IsSlotted uses slots (length slots) new → AreSlotted uses (slots ++ new ∷ [])
  more_slotted few so_far is = record {
    each = λ k h. elim (cases_lt k (length slots)) [
      | inl p ↦ subst (IsSlotted uses (slots ++ new ∷ []) k) (sym (get_or_append_left slots (new ∷ []) no_slots k p)) (still_slotted k (slots_at slots k) (omega arith) (so_far.each k p))
      | inr p ↦ (let e : k ≡ length slots = (let l = length_push slots new in omega arith) in
          subst (λ j. IsSlotted uses (slots ++ new ∷ []) j (slots_at (slots ++ new ∷ []) j)) (sym e) (subst (IsSlotted uses (slots ++ new ∷ []) (length slots)) (sym (get_or_push slots new no_slots (length slots) refl)) (still_slotted (length slots) new (omega arith) is)))
    ];
    few = λ t. elim (cases_lt t (length slots)) [
      | inl p ↦ (let e : own_slot (slots ++ new ∷ []) t ≡ own_slot slots t = ap (λ (x : TermSlots). x.own) (get_or_append_left slots (new ∷ []) no_slots t p) in let l = so_far.few t in omega arith)
      | inr p ↦ elim (cases_eq t (length slots)) [
        | inl q ↦ (let e : own_slot (slots ++ new ∷ []) t ≡ new.own = ap (own_slot (slots ++ new ∷ [])) q ∙ ap (λ (x : TermSlots). x.own) (get_or_push slots new no_slots (length slots) refl) in let l = is.below in let m = count_few uses (length slots) (length slots) in omega arith)
        | inr q ↦ (let e : own_slot (slots ++ new ∷ []) t ≡ 0 = ap (λ (x : TermSlots). x.own) (get_or_past (slots ++ new ∷ []) t no_slots (let l = length_push slots new in omega arith)) in omega arith)
      ]
    ];
  }
