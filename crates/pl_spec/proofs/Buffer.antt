-- What is seen on the next session: the events of the new day come after those seen so far.
use Rattle.std.proofs.Common.{◌≡◌, ℕ, suc, Bool, true, false, cond, ℤ, pos, ◌<ℤ◌, ◌≤ℤ◌, ◌+ℤ◌, List, [], ◌∷◌, ◌++◌, get_or, Some, refl, ◌∙◌, ap, arith, filter, AllPairs, All, filter_map}
use Rattle.std.proofs.lemmas.Int.{ints}
use Rattle.std.proofs.lemmas.List.Elements.{filter_map-append}
use Rattle.std.proofs.lemmas.List.Sums.{fold-append}
use Rattle.std.specs.Int.RustNames.{int_lt, int_le}
use Rattle.pl_spec.specs.World.{World, IsWorld, Event, day_of, bar_cell, events_of}
use Rattle.pl_spec.specs.declared.Column.{Column}
use Rattle.pl_spec.specs.Window.{effect, changed, is_between, effects_in, after_all, seen_cell}
use Rattle.pl_spec.proofs.Signed.{int_le-false}

-- ---- the tests of one event, by whether it acts up to the day mid

module _ (low mid high : ℤ) (l : low ≤ℤ mid) (h : mid ≤ℤ high) where
  early_whole : (e : Event) → int_le e.day mid ≡ true → is_between low high e ≡ is_between low mid e
  early_whole e p = let q : int_le e.day high ≡ true = grind (arith, ints) in rw (p, q) refl

  early_later : (e : Event) → int_le e.day mid ≡ true → is_between mid high e ≡ false
  early_later e p = let q : int_lt mid e.day ≡ false = grind (arith, ints) in grind (q, arith)

  late_early : (e : Event) → int_le e.day mid ≡ false → is_between low mid e ≡ false
  late_early e p = grind (p, arith)

  late_whole : (e : Event) → int_le e.day mid ≡ false → is_between low high e ≡ is_between mid high e
  late_whole e p =
      let q : int_lt mid e.day ≡ true = grind (arith, ints) in
      let r : int_lt low e.day ≡ true = grind (arith, ints) in rw (q, r) refl

by_day : (low high : ℤ) (e : Event) → is_between low high e ≡ true → e.day ≤ℤ high
by_day low high e p = let q : int_le e.day high ≡ true = grind (p, arith) in grind (arith, ints)

-- no event of a comes up to the day where all of them are later
none_yet : (low mid : ℤ) (es : List Event) → All (λ e. mid <ℤ e.day) es → filter (is_between low mid) es ≡ []
none_yet low mid [] later = refl
none_yet low mid (e ∷ es) later =
    here (is_between low mid e) refl (none_yet low mid es (λ k d in_list. later (suc k) d (omega arith)))
  where
    here : (b : Bool) → is_between low mid e ≡ b → filter (is_between low mid) es ≡ [] → cond b (e ∷ filter (is_between low mid) es) (filter (is_between low mid) es) ≡ []
    here true p rest =
        let now : mid <ℤ e.day = later 0 e (omega arith) in
        let then : e.day ≤ℤ mid = by_day low mid e p in absurd (omega (arith, ints))
    here false p rest = rest

pushed : {X : Type 0} (b : Bool) (e : X) (xs ys zs : List X) → xs ≡ ys ++ zs → cond b (e ∷ xs) xs ≡ cond b (e ∷ ys) ys ++ zs
pushed true e xs ys zs h = ap (λ l. e ∷ l) h
pushed false e xs ys zs h = h

pushed_behind : {X : Type 0} (b : Bool) (e : X) (xs ys zs : List X) → xs ≡ ys ++ zs → (b ≡ true → ys ≡ []) → cond b (e ∷ xs) xs ≡ ys ++ cond b (e ∷ zs) zs
pushed_behind true e xs ys zs h none = let n : ys ≡ [] = none refl in rw n (ap (λ l. e ∷ l) (rw n at h))
pushed_behind false e xs ys zs h none = h

-- two tests that meet at mid split the events
pub split : (low mid high : ℤ) → low ≤ℤ mid → mid ≤ℤ high → (es : List Event)
    → AllPairs (λ e f. e.day ≤ℤ f.day) es
    → filter (is_between low high) es ≡ filter (is_between low mid) es ++ filter (is_between mid high) es
split low mid high l h [] order = refl
split low mid high l h (e ∷ es) order =
    here (int_le e.day mid) refl (split low mid high l h es (λ i j d before in_list. order (suc i) (suc j) d (omega arith) (omega arith)))
  where
    here : (b : Bool) → int_le e.day mid ≡ b → filter (is_between low high) es ≡ filter (is_between low mid) es ++ filter (is_between mid high) es
        → filter (is_between low high) (e ∷ es) ≡ filter (is_between low mid) (e ∷ es) ++ filter (is_between mid high) (e ∷ es)
    here true p rest =
        rw (early_whole low mid high l h e p, early_later low mid high l h e p)
        (pushed (is_between low mid e) e _ _ _ rest)
    here false p rest =
        let q : mid <ℤ e.day = int_le-false e.day mid p in
        rw (late_early low mid high l h e p, late_whole low mid high l h e p)
        (pushed_behind (is_between mid high e) e _ _ _ rest
        (λ t. none_yet low mid es (λ k d in_list.
        let o : e.day ≤ℤ (get_or es k d).day = order 0 (suc k) d (omega arith) (omega arith) in
        omega (arith, ints))))

no_event : (low high : ℤ) (e : Event) → high ≤ℤ low → is_between low high e ≡ false
no_event low high e h = grind (arith, ints)

nothing : (low high : ℤ) → high ≤ℤ low → (es : List Event) → filter (is_between low high) es ≡ []
nothing low high h [] = refl
nothing low high h (e ∷ es) = rw (no_event low high e h) (nothing low high h es)

pub effects-split : (c : Column) (bar low mid high : ℤ) → low ≤ℤ mid → mid ≤ℤ high → (es : List Event)
    → AllPairs (λ e f. e.day ≤ℤ f.day) es
    → effects_in c bar low high es ≡ effects_in c bar low mid es ++ effects_in c bar mid high es
effects-split c bar low mid high l h es order =
    ap (filter_map (effect c bar)) (split low mid high l h es order)
    ∙ filter_map-append (effect c bar) (filter (is_between low mid) es) (filter (is_between mid high) es)

pub no_effects : (c : Column) (bar low high : ℤ) → high ≤ℤ low → (es : List Event) → effects_in c bar low high es ≡ []
no_effects c bar low high h es = ap (filter_map (effect c bar)) (nothing low high h es)

module _ (w : World) (a : ℕ) (c : Column) (s d : ℤ) (low mid high : ℤ) where
  -- Going to the next session adds the events of the days up to it, after those of the row so far.
  pub seen_next : IsWorld w → day_of w s ≡ Some low → day_of w d ≡ Some mid → day_of w (d +ℤ pos 1) ≡ Some high → low ≤ℤ mid → mid ≤ℤ high
      → seen_cell w a c s (d +ℤ pos 1) ≡ after_all (seen_cell w a c s d) (effects_in c low mid high (events_of w a))
  unfolding seen_cell
  seen_next ok at_s at_d at_next l h =
      rw (at_s, at_d, at_next, effects-split c low low mid high l h (events_of w a) (ok.events_in_order a))
      (fold-append changed (bar_cell w a c s) (effects_in c low low mid (events_of w a)) (effects_in c low mid high (events_of w a)))
