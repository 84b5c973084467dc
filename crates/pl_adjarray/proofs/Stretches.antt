-- For how many sessions no adjustment becomes effective: up to the one before the first session that is not
-- before the day of an adjustment.
use Rattle.std.proofs.Common.{◌≡◌, Bool, true, false, cond, ℕ, suc, ◌+◌, ◌-◌, ◌<◌, ◌≤◌, ℤ, pos, ◌≤ℤ◌, ◌<ℤ◌, List, [], ◌∷◌, All, AllPairs, length, filter, Option, Some, None, option_map, map, slice_get, Bor, inl, inr, refl, sym, ◌∙◌, ap, subst, arith}
use Rattle.std.specs.List.{position}
use Rattle.std.specs.Option.{option_copied}
use Rattle.std.specs.Int.RustNames.{int_le}
use Rattle.std.proofs.lemmas.Int.{ints}
use Rattle.std.proofs.lemmas.Bool.{cases_lt}
use Rattle.std.proofs.lemmas.List.Elements.{filter_passes}
use Rattle.std.proofs.lemmas.List.Quantifiers.{position-Some}
use Rattle.std.proofs.lemmas.Option.{get_or_from_slice_get, slice_get_within, slice_get-get_or, slice_get-map}
use Rattle.pl_spec.specs.World.{Event, events_of}
use Rattle.pl_spec.specs.Window.{is_between}
use Rattle.pl_spec.proofs.Places.{nowhere}
use Rattle.pl_spec.proofs.Signed.{int_le-false}
use Rattle.pl_adjust.specs.declared.adjust.Adjust.{Adjust}
use Rattle.pl_adjust.specs.Events.{event_of}
use Rattle.pl_adjarray.specs.Buffered.{Buffered, col_at, world_of}
use Rattle.pl_adjarray.specs.Inside.{IsReadyBuffer}
use Rattle.pl_adjarray.specs.Stillness.{IsGreatest, IsQuiet, IsStill, day_at, effective_within}
use Rattle.pl_adjarray.proofs.Quiet.{still_is, within_none}
use Rattle.pl_adjarray.proofs.Slides.{days_le, has_day}

-- ---- the first that passes

first_is : {X : Type 0} (x e : X) (xs : List X) → slice_get (x ∷ xs) 0 ≡ Some e → x ≡ e
first_is x e xs h = get_or_from_slice_get (x ∷ xs) 0 e e h

first_of_none : {X : Type 0} (e : X) → slice_get [] 0 ≡ Some e → ⊥
first_of_none e h = let w = slice_get_within [] 0 e h in omega (arith, w)

pub none_first : {X : Type 0} (xs : List X) → slice_get xs 0 ≡ None → xs ≡ []
none_first [] h = refl
none_first (x ∷ xs) h = absurd (let s = slice_get-get_or (x ∷ xs) 0 x (omega arith) in let e : None ≡ Some x = sym h ∙ s in cc)

first_passes : {X : Type 0} (f : X → Bool) (xs : List X) (e : X) → slice_get (filter f xs) 0 ≡ Some e → f e ≡ true
first_passes f xs e h =
    subst (λ y. f y ≡ true) (get_or_from_slice_get (filter f xs) 0 e e h) (filter_passes f xs 0 e (slice_get_within (filter f xs) 0 e h))

-- where nothing passes another test, the first does not pass it either
first_fails : {X : Type 0} (f g : X → Bool) (xs : List X) (e : X) → slice_get (filter f xs) 0 ≡ Some e → filter g xs ≡ [] → g e ≡ false
first_fails f g [] e first none = absurd (first_of_none e first)
first_fails f g (x ∷ xs) e first none = here (f x) (g x) refl refl first none (first_fails f g xs e)
  where
    here : (b c : Bool) → f x ≡ b → g x ≡ c → slice_get (cond b (x ∷ filter f xs) (filter f xs)) 0 ≡ Some e → cond c (x ∷ filter g xs) (filter g xs) ≡ []
        → (slice_get (filter f xs) 0 ≡ Some e → filter g xs ≡ [] → g e ≡ false) → g e ≡ false
    here b true p q s n rest = absurd (let z = ap length n in omega (arith, z))
    here true false p q s n rest = subst (λ y. g y ≡ false) (first_is x e (filter f xs) s) q
    here false false p q s n rest = rest s n

-- the day of the first event is that of the first adjustment that is lent
pub first_day : (es : List Event) (xs : List Adjust) (r : Option (Bor Adjust)) → map event_of xs ≡ es → option_copied r ≡ slice_get xs 0
    → option_map (λ x. x.now.day) r ≡ option_map (λ e. e.day) (slice_get es 0)
first_day es xs r e f =
    of_copied r
    ∙ ap (λ o. option_map (λ (e : Event). e.day) (option_map event_of o)) f
    ∙ ap (option_map (λ (e : Event). e.day)) (sym (slice_get-map event_of xs 0))
    ∙ ap (λ l. option_map (λ (e : Event). e.day) (slice_get l 0)) e
  where
    of_copied : (r : Option (Bor Adjust)) → option_map (λ x. x.now.day) r ≡ option_map (λ (e : Event). e.day) (option_map event_of (option_copied r))
    of_copied None = refl
    of_copied (Some x) = refl

no_day : (es : List Event) → None ≡ option_map (λ (e : Event). e.day) (slice_get es 0) → slice_get es 0 ≡ None
no_day es h = here (slice_get es 0) h
  where
    here : (o : Option Event) → None ≡ option_map (λ (e : Event). e.day) o → o ≡ None
    here None h = refl
    here (Some e) h = absurd (cc)

day_found : (es : List Event) (day : ℤ) → Some day ≡ option_map (λ (e : Event). e.day) (slice_get es 0) → (e : Event) × (slice_get es 0 ≡ Some e) × (e.day ≡ day)
day_found es day h = here (slice_get es 0) h refl
  where
    here : (o : Option Event) → Some day ≡ option_map (λ (e : Event). e.day) o → slice_get es 0 ≡ o → (e : Event) × (slice_get es 0 ≡ Some e) × (e.day ≡ day)
    here None h p = absurd (cc)
    here (Some e) h p = (e, p, (let q : e.day ≡ day = cc in q))

-- between the days of two sessions
pub by_days : (b : Buffered) (d most a : ℕ) (today last : ℤ) (o : Option ℤ) → slice_get b.days d ≡ Some today → slice_get b.days (d + most) ≡ Some last
    → o ≡ option_map (λ (e : Event). e.day) (slice_get (filter (is_between today last) (events_of (world_of b) a)) 0)
    → o ≡ option_map (λ (e : Event). e.day) (slice_get (effective_within b d most a) 0)
by_days b d most a today last o at_d at_last h =
    let s : day_at b d ≡ today = get_or_from_slice_get b.days d today (pos 0) at_d in
    let l : day_at b (d + most) ≡ last = get_or_from_slice_get b.days (d + most) last (pos 0) at_last in
    rw (s, l) h

-- ---- events in order of days

none_later : (low mid day : ℤ) (es : List Event) → mid <ℤ day → All (λ e. day ≤ℤ e.day) es → filter (is_between low mid) es ≡ []
none_later low mid day [] h later = refl
none_later low mid day (e ∷ es) h later =
    let own : day ≤ℤ e.day = later 0 e (omega arith) in
    let out : is_between low mid e ≡ false = grind (arith, h, own) in
    rw out (none_later low mid day es h (λ k x l. later (suc k) x (omega (arith, l))))

-- on the days before the first event's none becomes effective
none_before : (low mid high : ℤ) (e : Event) (es : List Event) → AllPairs (λ a b. a.day ≤ℤ b.day) es → mid <ℤ e.day → e.day ≤ℤ high
    → slice_get (filter (is_between low high) es) 0 ≡ Some e → filter (is_between low mid) es ≡ []
none_before low mid high e [] up h l first = refl
none_before low mid high e (x ∷ es) up h l first =
    here (is_between low high x) refl first (none_before low mid high e es (λ i j d p q. up (suc i) (suc j) d (omega (arith, p)) (omega (arith, q))) h l)
  where
    here : (b : Bool) → is_between low high x ≡ b → slice_get (cond b (x ∷ filter (is_between low high) es) (filter (is_between low high) es)) 0 ≡ Some e
        → (slice_get (filter (is_between low high) es) 0 ≡ Some e → filter (is_between low mid) es ≡ [])
        → cond (is_between low mid x) (x ∷ filter (is_between low mid) es) (filter (is_between low mid) es) ≡ []
    here true p s rest =
        let same : x ≡ e = first_is x e (filter (is_between low high) es) s in
        let own : mid <ℤ x.day = subst (λ (y : Event). mid <ℤ y.day) (sym same) h in
        let out : is_between low mid x ≡ false = grind (arith, own) in
        rw out (none_later low mid x.day es own (λ k d m. up 0 (suc k) d (omega arith) (omega (arith, m))))
    here false p s rest =
        let out : is_between low mid x ≡ false = grind (arith, p, h, l) in
        rw out (rest s)

-- ---- days

after_low : (low high day : ℤ) (e : Event) → e.day ≡ day → is_between low high e ≡ true → low <ℤ day
after_low low high day e h i = subst (λ x. low <ℤ x) h (let p : low <ℤ e.day = grind (arith, i) in p)

by_high : (low high day : ℤ) (e : Event) → e.day ≡ day → is_between low high e ≡ true → day ≤ℤ high
by_high low high day e h i = subst (λ x. x ≤ℤ high) h (let p : e.day ≤ℤ high = grind (arith, i) in p)

before_none : (day x : ℤ) → int_le day x ≡ false → day ≤ℤ x → ⊥
before_none day x h l = let b = int_le-false day x h in omega (arith, ints)

not_reached : (day next today : ℤ) → int_le day next ≡ true → next ≤ℤ today → today <ℤ day → ⊥
not_reached day next today h l m = let p : day ≤ℤ next = grind (arith, h) in omega (arith, ints)

still_in : (today next last day : ℤ) (e : Event) → e.day ≡ day → today <ℤ day → int_le day next ≡ true → next ≤ℤ last → is_between today last e ≡ false → ⊥
still_in today next last day e h l r u out =
    let p : day ≤ℤ next = grind (arith, r) in
    let own : today <ℤ e.day = subst (λ x. today <ℤ x) (sym h) l in
    let by : e.day ≤ℤ last = subst (λ x. x ≤ℤ last) (sym h) (let q : day ≤ℤ last = omega (arith, ints) in q) in
    let yes : is_between today last e ≡ true = grind (arith, own, by) in
    let clash : true ≡ false = sym yes ∙ out in
    cc

-- ---- the greatest number of sessions

-- what is the greatest below some bound is so up to each greater one
pub wider : (P : ℕ → Type 0) (near most n : ℕ) → ((k j : ℕ) → j ≤ k → k ≤ most → P k → P j) → near ≤ most → n < near → IsGreatest P near n → IsGreatest P most n
wider P near most n closed h below g = record {
  few = omega (arith, h, below);
  holds = g.holds;
  greatest = λ k l p. elim (cases_lt n k) [
    | inl more ↦ absurd (let z = g.greatest (suc n) (omega (arith, below)) (closed k (suc n) (omega (arith, more)) l p) in omega (arith, z))
    | inr less ↦ less
  ];
}

module _ (b : Buffered) (ready : IsReadyBuffer b) where
  day_up : (s d : ℕ) → s ≤ d → d < length b.days → day_at b s ≤ℤ day_at b d
  day_up s d h in_days =
      days_le (world_of b) ready.world s d (day_at b s) (day_at b d) h (has_day (world_of b) s (omega (arith, h, in_days))) (has_day (world_of b) d in_days)

  -- what becomes effective on no session does so on none of fewer
  pub fewer : (d a k j : ℕ) → d + k ≤ b.first + b.rows → j ≤ k → effective_within b d k a ≡ [] → effective_within b d j a ≡ []
  fewer d a k j high h none =
      let r = ready.range in
      within_none (day_at b d) (day_at b (d + k)) (day_at b d) (day_at b (d + j)) (day_up d d (omega arith) (omega (arith, r, high))) (day_up (d + j) (d + k) (omega (arith, h)) (omega (arith, r, high)))
      (events_of (world_of b) a) none

  module _ (d a most : ℕ) (high : d + most ≤ b.first + b.rows) where
    pub all_quiet : None ≡ option_map (λ e. e.day) (slice_get (effective_within b d most a) 0) → IsGreatest (λ n. effective_within b d n a ≡ []) most most
    all_quiet h = record { few = omega arith; holds = none_first _ (no_day (effective_within b d most a) h); greatest = λ k l p. l }

    module _ (day : ℤ) (first : Some day ≡ option_map (λ e. e.day) (slice_get (effective_within b d most a) 0)) where
      found : (e : Event) × (slice_get (effective_within b d most a) 0 ≡ Some e) × (e.day ≡ day)
      found = day_found (effective_within b d most a) day first

      is_in : is_between (day_at b d) (day_at b (d + most)) found.0 ≡ true
      is_in = first_passes (is_between (day_at b d) (day_at b (d + most))) (events_of (world_of b) a) found.0 found.1

      later : day_at b d <ℤ day
      later = let i = is_in in let e = found.2 in after_low (day_at b d) (day_at b (d + most)) day found.0 e i

      by_last : day ≤ℤ day_at b (d + most)
      by_last = let i = is_in in let e = found.2 in by_high (day_at b d) (day_at b (d + most)) day found.0 e i

      -- a session follows that is not before that day
      pub has_next : None ≡ position (λ x. int_le day x) b.days → ⊥
      has_next none = let r = ready.range in
          before_none day (day_at b (d + most)) (nowhere (λ x. int_le day x) b.days (sym none) (d + most) (pos 0) (omega (arith, r, high))) by_last

      module _ (next : ℕ) (at_next : Some next ≡ position (λ x. int_le day x) b.days) where
        reached : (next < length b.days) × (int_le day (day_at b next) ≡ true) × ((k : ℕ) → k < next → int_le day (day_at b k) ≡ false)
        reached = position-Some (λ x. int_le day x) b.days next (pos 0) (sym at_next)

        pub next_later : d < next
        next_later = elim (cases_lt d next) [
          | inl h ↦ h
          | inr h ↦ absurd (let r = ready.range in let up = day_up next d h (omega (arith, r, high)) in not_reached day (day_at b next) (day_at b d) reached.1 up later)
        ]

        next_soon : next ≤ d + most
        next_soon = elim (cases_lt (d + most) next) [
          | inl h ↦ absurd (before_none day (day_at b (d + most)) (reached.2 (d + most) h) by_last)
          | inr h ↦ h
        ]

        pub up_to_next : IsGreatest (λ n. effective_within b d n a ≡ []) most (next - d - 1)
        up_to_next =
            let l = next_later in let s = next_soon in
            let place : d + (next - d - 1) ≡ next - 1 = omega (arith, l) in
            let early : day_at b (next - 1) <ℤ day = int_le-false day (day_at b (next - 1)) (reached.2 (next - 1) (omega (arith, l))) in
            record {
              few = omega (arith, l, s);
              holds = rw place (none_before (day_at b d) (day_at b (next - 1)) (day_at b (d + most)) found.0 (events_of (world_of b) a) (ready.world.events_in_order a)
                  (subst (λ x. day_at b (next - 1) <ℤ x) (sym found.2) early) (subst (λ x. x ≤ℤ day_at b (d + most)) (sym found.2) by_last) found.1);
              greatest = λ k m none. elim (cases_lt (next - d - 1) k) [
                | inl more ↦ absurd (
                    let r = ready.range in
                    let up = day_up next (d + k) (omega (arith, more, l)) (omega (arith, r, high, m)) in
                    let out = first_fails (is_between (day_at b d) (day_at b (d + most))) (is_between (day_at b d) (day_at b (d + k))) (events_of (world_of b) a) found.0 found.1 none in
                    still_in (day_at b d) (day_at b next) (day_at b (d + k)) day found.0 found.2 later reached.1 up out)
                | inr less ↦ less
              ];
            }

  -- of one asset more
  pub one_more : (d i most least n : ℕ) → d + most ≤ b.first + b.rows
      → IsGreatest (λ n. (j : ℕ) → j < i → effective_within b d n (col_at b j) ≡ []) most least
      → IsGreatest (λ n. effective_within b d n (col_at b i) ≡ []) least n
      → IsGreatest (λ n. (j : ℕ) → j < i + 1 → effective_within b d n (col_at b j) ≡ []) most n
  one_more d i most least n high before own = record {
    few = (let f = before.few in let g = own.few in omega (arith, f, g));
    holds = λ j h. elim (cases_lt j i) [
      | inl p ↦ fewer d (col_at b j) least n (let f = before.few in omega (arith, f, high)) own.few (before.holds j p)
      | inr p ↦ (let same : i ≡ j = omega (arith, h, p) in subst (λ k. effective_within b d n (col_at b k) ≡ []) same own.holds)
    ];
    greatest = λ k l none. own.greatest k (before.greatest k l (λ j p. none j (omega (arith, p)))) (none i (omega arith));
  }

  -- and of all: nothing changes
  module _ (d most n : ℕ) (low : b.first ≤ d) (high : d + most ≤ b.first + b.rows)
      (all : IsGreatest (λ n. (j : ℕ) → j < length b.cols → effective_within b d n (col_at b j) ≡ []) most n) where
    pub still_of : IsStill b d n
    still_of =
        let r = ready.range in
        let within : d + n ≤ b.first + b.rows = (let f = all.few in omega (arith, f, high)) in
        still_is b ready d n low within (day_at b d) (day_at b (d + n)) (has_day (world_of b) d (omega (arith, r, within))) (has_day (world_of b) (d + n) (omega (arith, r, within))) all.holds

    pub longest : (k : ℕ) → k ≤ most → IsQuiet b d k → k ≤ n
    longest k l q = all.greatest k l q.none
