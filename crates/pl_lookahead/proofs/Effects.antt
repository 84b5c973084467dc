-- Adjustments that are the same by day do the same to each cell, in whatever order revisions of a day stand.
use Rattle.std.proofs.Common.{◌≡◌, ℕ, ◌≤◌, ◌==◌, ◌&&◌, Bool, true, false, cond, if◌then◌else◌, ℤ, ◌<ℤ◌, ◌≤ℤ◌, List, [], ◌∷◌, ◌++◌, map, filter, filter_map, length, All, AllPairs, IsPermutation, Option, Some, None, refl, sym, ◌∙◌, ap, arith}
use Rattle.std.specs.Int.RustNames.{int_le}
use Rattle.std.specs.Option.{is_some}
use Rattle.std.specs.Ordering.{int_eq}
use Rattle.std.proofs.lemmas.Bool.{and_parts, eqb-true, true≢false}
use Rattle.std.proofs.lemmas.Int.{ints, by_lt_z}
use Rattle.std.proofs.lemmas.List.Elements.{filter-append, filter_passes}
use Rattle.std.proofs.lemmas.List.Kept.{AllPairs-filter}
use Rattle.pl_spec.specs.declared.Column.{Column}
use Rattle.pl_spec.specs.Order.{acts_at, by_day}
use Rattle.pl_spec.specs.Window.{effect, effects_in, is_between, same_column}
use Rattle.pl_spec.specs.Window.Effect.{Put}
use Rattle.pl_spec.specs.World.{Adjustment}
use Rattle.pl_spec.proofs.ByDay.{by_day_is_one, by_day-is_by_day}
use Rattle.pl_spec.proofs.Lists.{filter-filter, filter-map, filter-none, filter-swap, filter-twice}
use Rattle.pl_spec.proofs.Permuted.{filter-permuted, one-permuted}
use Rattle.pl_spec.proofs.Signed.{int_eq-true}
use Rattle.pl_adjust.specs.declared.revisions.Revision.{Revision}
use Rattle.pl_adjust.specs.Revised.{revised}
use Rattle.pl_adjust.specs.Revisions.{is_same}
use Rattle.pl_adjust.proofs.RevisionsRead.{column_is, whole}
use Rattle.pl_lookahead.specs.Agreement.{is_of}

-- ---- what is left out does nothing

kept : {A B : Type 0} (f : A → Option B) (xs : List A) → filter_map f xs ≡ filter_map f (filter (λ x. is_some (f x)) xs)
kept f [] = refl
kept {A} {B} f (x ∷ xs) = here (f x) refl (kept f xs)
  where
    here : (o : Option B) → f x ≡ o → filter_map f xs ≡ filter_map f (filter (λ x. is_some (f x)) xs) → filter_map f (x ∷ xs) ≡ filter_map f (cond (is_some o) (x ∷ filter (λ x. is_some (f x)) xs) (filter (λ x. is_some (f x)) xs))
    here (Some y) e rest = rw e (ap (λ l. y ∷ l) rest)
    here None e rest = rw e rest

filter_map-map : {A B C : Type 0} (f : B → Option C) (g : A → B) (xs : List A) → filter_map f (map g xs) ≡ filter_map (λ x. f (g x)) xs
filter_map-map f g [] = refl
filter_map-map {A} {B} {C} f g (x ∷ xs) = here (f (g x)) refl (filter_map-map f g xs)
  where
    here : (o : Option C) → f (g x) ≡ o → filter_map f (map g xs) ≡ filter_map (λ x. f (g x)) xs → filter_map f (map g (x ∷ xs)) ≡ filter_map (λ x. f (g x)) (x ∷ xs)
    here (Some y) e rest = rw e (ap (λ l. y ∷ l) rest)
    here None e rest = rw e rest

-- lists by day are one where they are so on each day
one_by_day : (xs ys : List Adjustment) → AllPairs (λ x y. x.event.day ≤ℤ y.event.day) xs → AllPairs (λ x y. x.event.day ≤ℤ y.event.day) ys
    → ((day : ℤ) → filter (acts_at day) xs ≡ filter (acts_at day) ys) → xs ≡ ys
one_by_day xs ys rise rise' same =
    by_day_is_one ys xs (record { rising = rise; same = same })
    ∙ sym (by_day_is_one ys ys (record { rising = rise'; same = λ day. refl }))

module _ (sid : ℕ) (c : Column) (bar low high : ℤ) where
  -- the adjustment of the asset acts on the cell between the two days
  acts : Adjustment → Bool
  acts x = (x.sid == sid && is_between low high x.event) && is_some (effect c bar x.event)

  abbrev acting : List Adjustment → List Adjustment
  acting zs = filter acts (by_day zs)

  events-acting : (xs : List Adjustment)
      → effects_in c bar low high (map (λ x. x.event) (filter (λ x. x.sid == sid) xs)) ≡ filter_map (λ x. effect c bar x.event) (filter acts xs)
  unfolding acts
  events-acting xs =
      ap (filter_map (effect c bar)) (filter-map (is_between low high) (λ (x : Adjustment). x.event) (filter (λ x. x.sid == sid) xs) ∙ ap (map (λ (x : Adjustment). x.event)) (filter-twice (λ x. is_between low high x.event) (λ x. x.sid == sid) xs))
      ∙ filter_map-map (effect c bar) (λ (x : Adjustment). x.event) (filter (λ x. x.sid == sid && is_between low high x.event) xs)
      ∙ kept (λ x. effect c bar x.event) (filter (λ x. x.sid == sid && is_between low high x.event) xs)
      ∙ ap (filter_map (λ x. effect c bar x.event)) (filter-twice (λ x. is_some (effect c bar x.event)) (λ x. x.sid == sid && is_between low high x.event) xs)

  acting-rises : (zs : List Adjustment) → AllPairs (λ x y. x.event.day ≤ℤ y.event.day) (acting zs)
  acting-rises zs = AllPairs-filter (λ x y. x.event.day ≤ℤ y.event.day) acts (by_day zs) (by_day-is_by_day zs).rising

  -- it acts on the cell on that day
  on : ℤ → Adjustment → Bool
  on day x = acts_at day x && acts x

  acting-on : (day : ℤ) (zs : List Adjustment) → filter (acts_at day) (acting zs) ≡ filter (on day) zs
  unfolding on
  acting-on day zs =
      filter-swap (acts_at day) acts (by_day zs)
      ∙ ap (filter acts) ((by_day-is_by_day zs).same day)
      ∙ filter-twice acts (acts_at day) zs

  on-parts : (day : ℤ) (x : Adjustment) → on day x ≡ true
      → (acts_at day x ≡ true) × ((x.sid == sid) ≡ true) × (is_between low high x.event ≡ true) × (is_some (effect c bar x.event) ≡ true)
  unfolding on acts
  on-parts day x e =
      let p = and_parts (acts_at day x) ((x.sid == sid && is_between low high x.event) && is_some (effect c bar x.event)) e in
      let q = and_parts (x.sid == sid && is_between low high x.event) (is_some (effect c bar x.event)) p.1 in
      let r = and_parts (x.sid == sid) (is_between low high x.event) q.0 in
      (p.0, r.0, r.1, q.1)

  on-of : (day : ℤ) (x : Adjustment) → on day x ≡ true → is_of sid day x ≡ true
  on-of day x e = let p = on-parts day x e in rw (p.1, p.0) refl

  on-by : (day : ℤ) (x : Adjustment) → on day x ≡ true → x.event.day ≤ℤ high
  on-by day x e = by_high (on-parts day x e).2
    where
      by_high : is_between low high x.event ≡ true → x.event.day ≤ℤ high
      by_high t = grind (arith, ints)

  on-day : (day : ℤ) (x : Adjustment) → on day x ≡ true → x.event.day ≡ day
  on-day day x e = int_eq-true x.event.day day (on-parts day x e).0

  -- of adjustments that are the same for the asset and the day
  on-same : (day : ℤ) (xs ys : List Adjustment) → filter (is_of sid day) xs ≡ filter (is_of sid day) ys → filter (on day) xs ≡ filter (on day) ys
  on-same day xs ys same =
      sym (filter-filter (on day) (is_of sid day) (on-of day) xs) ∙ ap (filter (on day)) same ∙ filter-filter (on day) (is_of sid day) (on-of day) ys

  -- ---- a revision acts on its own cell

  puts : ℤ → Revision → Bool
  puts day y = on day (revised y)

  own_cell : (y : Revision) → is_some (effect c bar (revised y).event) ≡ true → (y.bar_day ≡ bar) × (y.column ≡ c)
  own_cell y d = here (int_eq y.bar_day bar && same_column y.column c) refl d
    where
      here : (b : Bool) → (int_eq y.bar_day bar && same_column y.column c) ≡ b → is_some (if b then Some (Put y.value) else None) ≡ true → (y.bar_day ≡ bar) × (y.column ≡ c)
      here true e d = let p = and_parts (int_eq y.bar_day bar) (same_column y.column c) e in (int_eq-true y.bar_day bar p.0, column_is y.column c p.1)
      here false e d = absurd (let bad : false ≡ true = d in cc)

  one_cell : (day : ℤ) (x y : Revision) → puts day x ≡ true → puts day y ≡ true → is_same y x ≡ true
  unfolding puts
  one_cell day x y e f =
      let p = on-parts day (revised x) e in
      let q = on-parts day (revised y) f in
      let own_x = own_cell x p.3 in
      let own_y = own_cell y q.3 in
      whole y x (record {
        sid = eqb-true x.sid sid p.1 ∙ sym (eqb-true y.sid sid q.1);
        session = own_x.0 ∙ sym own_y.0;
        column = own_x.1 ∙ sym own_y.1;
        known = on-day day (revised x) e ∙ sym (on-day day (revised y) f);
      })

  -- so of a day at most one acts on the cell
  abbrev Apart : List Revision → Type 0
  Apart rows = AllPairs (λ x y. is_same y x ≡ false) rows

  one_puts : (day : ℤ) (rows : List Revision) → Apart rows → All (λ y. puts day y ≡ true) rows → length rows ≤ 1
  one_puts day [] apart all = omega arith
  one_puts day (x ∷ []) apart all = omega arith
  one_puts day (x ∷ y ∷ rows) apart all =
      absurd (true≢false (sym (one_cell day x y (all 0 x (omega arith)) (all 1 x (omega arith))) ∙ apart 0 1 x (omega arith) (omega arith)))

  puts-known : (day known : ℤ) → high ≤ℤ known → (y : Revision) → puts day y ≡ true → int_le y.known known ≡ true
  unfolding puts
  puts-known day known h y e = below (on-by day (revised y) e)
    where
      below : y.known ≤ℤ high → int_le y.known known ≡ true
      below l = grind (arith, ints)

  -- revisions that are the same up to a day, in whatever order
  revised-same : (known : ℤ) → high ≤ℤ known → (xs ys : List Revision) → Apart xs → IsPermutation (filter (λ y. int_le y.known known) xs) (filter (λ y. int_le y.known known) ys)
      → (day : ℤ) → filter (on day) (map revised xs) ≡ filter (on day) (map revised ys)
  unfolding puts
  revised-same known h xs ys apart moved day =
      filter-map (on day) revised xs
      ∙ ap (map revised) (sym (by_known xs) ∙ one-permuted (filter (puts day) (us xs)) (filter (puts day) (us ys)) few (filter-permuted (puts day) (us xs) (us ys) moved) ∙ by_known ys)
      ∙ sym (filter-map (on day) revised ys)
    where
      us : List Revision → List Revision
      us rows = filter (λ y. int_le y.known known) rows

      by_known : (rows : List Revision) → filter (puts day) (us rows) ≡ filter (puts day) rows
      by_known rows = filter-filter (puts day) (λ y. int_le y.known known) (puts-known day known h) rows

      few : length (filter (puts day) (us xs)) ≤ 1
      few = one_puts day (filter (puts day) (us xs))
          (AllPairs-filter (λ x y. is_same y x ≡ false) (puts day) (us xs) (AllPairs-filter (λ x y. is_same y x ≡ false) (λ y. int_le y.known known) xs apart))
          (filter_passes (puts day) (us xs))

  -- what comes later than the day does nothing
  late : (known day : ℤ) → high ≤ℤ known → known <ℤ day → (zs : List Adjustment) → [] ≡ filter (on day) zs
  late known day h l zs = none zs
    where
      never : (x : Adjustment) → on day x ≡ false
      never x = here (on day x) refl
        where
          here : (b : Bool) → on day x ≡ b → b ≡ false
          here false e = refl
          here true e = let by : x.event.day ≤ℤ high = on-by day x e in let is : x.event.day ≡ day = on-day day x e in absurd (omega (arith, ints))

      none : (zs : List Adjustment) → [] ≡ filter (on day) zs
      none zs = filter-none (on day) zs never

  pub effects-same : (known : ℤ) → high ≤ℤ known → (ts us : List Adjustment) (xs ys : List Revision) → Apart xs
      → ((day : ℤ) → day ≤ℤ known → filter (is_of sid day) ts ≡ filter (is_of sid day) us)
      → IsPermutation (filter (λ y. int_le y.known known) xs) (filter (λ y. int_le y.known known) ys)
      → effects_in c bar low high (map (λ x. x.event) (filter (λ x. x.sid == sid) (by_day (ts ++ map revised xs))))
      ≡ effects_in c bar low high (map (λ x. x.event) (filter (λ x. x.sid == sid) (by_day (us ++ map revised ys))))
  effects-same known h ts us xs ys apart same moved =
      events-acting (by_day (ts ++ map revised xs))
      ∙ ap (filter_map (λ (x : Adjustment). effect c bar x.event)) (one_by_day (acting zs) (acting ws) (acting-rises zs) (acting-rises ws) (λ day. acting-on day zs ∙ each day ∙ sym (acting-on day ws)))
      ∙ sym (events-acting (by_day (us ++ map revised ys)))
    where
      zs : List Adjustment
      zs = ts ++ map revised xs

      ws : List Adjustment
      ws = us ++ map revised ys

      each : (day : ℤ) → filter (on day) zs ≡ filter (on day) ws
      each day = by_lt_z known day (λ l. sym (late known day h l zs) ∙ late known day h l ws) (λ m.
          filter-append (on day) ts (map revised xs)
          ∙ ap (λ l. l ++ filter (on day) (map revised xs)) (on-same day ts us (same day (omega (arith, ints))))
          ∙ ap (λ l. filter (on day) us ++ l) (revised-same known h xs ys apart moved day)
          ∙ sym (filter-append (on day) us (map revised ys)))
