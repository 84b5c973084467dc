-- Each world can be restated.
use Rattle.std.proofs.Common.{◌≡◌, ℕ, Bool, true, false, ◌&&◌, ◌==◌, if◌then◌else◌, not, ℤ, pos, negsuc, List, [], ◌∷◌, ◌++◌, map, filter, find, slice_get, Option, Some, None, option_map, unwrap_or, refl, sym, ◌∙◌, ap}
use Rattle.std.specs.Int.RustNames.{int_lt}
use Rattle.std.proofs.Math.Path.{fun_ext}
use Rattle.std.proofs.lemmas.Bool.{and_parts, eqb-true, eq-eqb}
use Rattle.std.proofs.lemmas.List.{map-id}
use Rattle.pl_spec.specs.declared.AdjustmentKind.{AdjustmentKind}
use Rattle.pl_spec.specs.declared.Column.{Column}
use Rattle.pl_spec.specs.declared.Column.TheVariants.{OpenPrice, High, Low, Close, Volume}
use Rattle.pl_spec.specs.Rounding.{MISSING, Fraction}
use Rattle.pl_spec.specs.World.{World, Bar, Event, Adjustment, day_of, events_of, cell_of, bar_cell}
use Rattle.pl_invariance.specs.Restated.{ratio_for, times, restated_event, restated_cell, restated_bar, restated_world, adjusted, WorldsCanBeRestated}
use Rattle.pl_invariance.proofs.Lists.{find-map, maps, kept-both}
use Rattle.pl_invariance.proofs.Exact.{missing_stays}

found-passes : {X : Type 0} (p : X → Bool) (xs : List X) (x : X) → find p xs ≡ Some x → p x ≡ true
found-passes p [] x e = absurd (let bad : None ≡ Some x = e in cc)
found-passes p (y ∷ ys) x e = step (p y) refl (found-passes p ys x)
  where
    step : (b : Bool) → p y ≡ b → (find p ys ≡ Some x → p x ≡ true) → p x ≡ true
    step true is rest = let first : Some y ≡ Some x = rw is at e in let same : y ≡ x = cc in ap p (sym same) ∙ is
    step false is rest = rest (rw is at e)

-- ---- missing cells

times_missing : (o : Option Fraction) → times o MISSING ≡ MISSING
times_missing None = refl
times_missing (Some f) = missing_stays f

restated_missing : (kind : AdjustmentKind) (ratio : Fraction) (split : ℤ) (c : Column) (o : Option ℤ) → MISSING ≡ restated_cell kind ratio split c o MISSING
restated_missing kind ratio split c None = refl
restated_missing kind ratio split c (Some bar) = step (int_lt bar split)
  where
    step : (b : Bool) → MISSING ≡ (if b then times (ratio_for c kind ratio) MISSING else MISSING)
    step true = sym (times_missing (ratio_for c kind ratio))
    step false = refl

module _ (w : World) (a : ℕ) (ratio : Fraction) (e : Event) (front back : List Event) where
  abbrev bar : Bar → Bar
  bar = restated_bar a e.kind ratio e.day w.days

  -- ---- bars

  sid_same : (b : Bar) → (bar b).sid ≡ b.sid
  sid_same b = step (b.sid == a) refl
    where
      step : (t : Bool) → (b.sid == a) ≡ t → (bar b).sid ≡ b.sid
      step true is = rw is refl
      step false is = rw is refl

  session_same : (b : Bar) → (bar b).session ≡ b.session
  session_same b = step (b.sid == a) refl
    where
      step : (t : Bool) → (b.sid == a) ≡ t → (bar b).session ≡ b.session
      step true is = rw is refl
      step false is = rw is refl

  cell_restated : (c : Column) (b : Bar) → (b.sid == a) ≡ true → cell_of c (bar b) ≡ restated_cell e.kind ratio e.day c (slice_get w.days b.session) (cell_of c b)
  cell_restated OpenPrice b is = rw is refl
  cell_restated High b is = rw is refl
  cell_restated Low b is = rw is refl
  cell_restated Close b is = rw is refl
  cell_restated Volume b is = rw is refl

  bar_restated : (c : Column) (s : ℤ) → bar_cell (restated_world w a ratio e front back) a c s ≡ restated_cell e.kind ratio e.day c (day_of w s) (bar_cell w a c s)
  bar_restated c (negsuc s) = refl
  bar_restated c (pos s) =
      ap (λ o. unwrap_or (option_map (cell_of c) o) MISSING) (find-map test bar w.bars)
      ∙ ap (λ p. unwrap_or (option_map (cell_of c) (option_map bar (find p w.bars))) MISSING) (fun_ext (λ b. ap (λ x. x == a && (bar b).session == s) (sid_same b) ∙ ap (λ y. b.sid == a && y == s) (session_same b)))
      ∙ on (find test w.bars) refl
    where
      test : Bar → Bool
      test b = b.sid == a && b.session == s

      on : (o : Option Bar) → find test w.bars ≡ o
          → unwrap_or (option_map (cell_of c) (option_map bar o)) MISSING ≡ restated_cell e.kind ratio e.day c (slice_get w.days s) (unwrap_or (option_map (cell_of c) o) MISSING)
      on None found = restated_missing e.kind ratio e.day c (slice_get w.days s)
      on (Some b) found =
          let passes = and_parts (b.sid == a) (b.session == s) (found-passes test w.bars b found) in
          cell_restated c b passes.0 ∙ ap (λ n. restated_cell e.kind ratio e.day c (slice_get w.days n) (cell_of c b)) (eqb-true b.session s passes.1)

  -- ---- events

  none_of_it : (xs : List Adjustment) → filter (λ (x : Adjustment). x.sid == a) (filter (λ (x : Adjustment). not (x.sid == a)) xs) ≡ []
  none_of_it [] = refl
  none_of_it (x ∷ xs) = step (x.sid == a) refl (none_of_it xs)
    where
      step : (b : Bool) → (x.sid == a) ≡ b → filter (λ (x : Adjustment). x.sid == a) (filter (λ (x : Adjustment). not (x.sid == a)) xs) ≡ []
          → filter (λ (x : Adjustment). x.sid == a) (filter (λ (x : Adjustment). not (x.sid == a)) (x ∷ xs)) ≡ []
      step true is rest = rw is rest
      step false is rest = rw is (rw is rest)

  all_of_it : (es : List Event) → filter (λ (x : Adjustment). x.sid == a) (map (adjusted a) es) ≡ map (adjusted a) es
  all_of_it [] = refl
  all_of_it (f ∷ es) = let is : (a == a) ≡ true = eq-eqb a a refl in rw is (ap (λ l. adjusted a f ∷ l) (all_of_it es))

  events_restated : events_of (restated_world w a ratio e front back) a ≡ map (restated_event e.kind ratio) front ++ back
  events_restated =
      let es : List Event = map (restated_event e.kind ratio) front ++ back in
      ap (map (λ (x : Adjustment). x.event)) (kept-both (λ (x : Adjustment). x.sid == a) (filter (λ (x : Adjustment). not (x.sid == a)) w.adjustments) (map (adjusted a) es))
      ∙ ap (λ l. map (λ (x : Adjustment). x.event) (l ++ filter (λ (x : Adjustment). x.sid == a) (map (adjusted a) es))) (none_of_it w.adjustments)
      ∙ ap (map (λ (x : Adjustment). x.event)) (all_of_it es)
      ∙ maps (λ (x : Adjustment). x.event) (adjusted a) es
      ∙ map-id es

pub worlds-can-be-restated : WorldsCanBeRestated
worlds-can-be-restated w a ratio e front back scales is = record {
  scales = scales;
  days = refl;
  ours = is;
  theirs = events_restated w a ratio e front back;
  bars = bar_restated w a ratio e front back;
}
