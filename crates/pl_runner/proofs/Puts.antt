-- What is put into the memory of a day.
use Rattle.std.proofs.Common.{◌≡◌, ◌≢◌, ℕ, zero, suc, ◌+◌, ◌-◌, ◌<◌, ◌≤◌, ◌==◌, ◌&&◌, Bool, true, false, ℤ, pos, List, [], ◌∷◌, ◌++◌, length, map, filter, take, get_or, Some, None, refl, sym, ◌∙◌, ap, arith, slice_get, cond, length-append}
use Rattle.std.specs.Prelude.{flat_map}
use Rattle.std.specs.List.{range_with_len}
use Rattle.std.specs.Int.RustNames.{int_lt, int_le}
use Rattle.std.proofs.lemmas.Grind.{flat_map-append}
use Rattle.std.proofs.lemmas.List.{append-nil, append_assoc, length-map, map-append, take_more}
use Rattle.std.proofs.lemmas.Option.{get_or_from_slice_get}
use Rattle.std.proofs.lemmas.List.Concat.{length-flat_map}
use Rattle.pl_spec.specs.Parts.{ColumnAdjustment}
use Rattle.pl_spec.specs.World.{Event}
use Rattle.pl_spec.proofs.Ranges.{range-next}
use Rattle.pl_spec.proofs.Lists.{filter-few}
use Rattle.pl_adjust.specs.declared.adjust.Adjust.{Adjust}
use Rattle.pl_adjust.specs.Columns.{events_at}
use Rattle.pl_adjust.specs.Events.{event_of}
use Rattle.pl_adjust.proofs.Between.{IsEnd}
use Rattle.pl_adjust.proofs.Runs.{filter-run}
use Rattle.pl_daily.specs.declared.day.DayEvent.{DayEvent}
use Rattle.pl_daily.specs.Changes.{column_event}
use Rattle.pl_runner.specs.Feeds.{day_before, is_due}
use Rattle.pl_runner.specs.Days.{col_due, day_at, events_due, in_col}
use Rattle.pl_runner.proofs.Lists.{counted-once, sum-le}

-- ---- which adjustments

filter-map : {X Y : Type 0} (p : Y → Bool) (f : X → Y) (xs : List X) → map f (filter (λ x. p (f x)) xs) ≡ filter p (map f xs)
filter-map p f [] = refl
filter-map p f (x ∷ xs) = here (p (f x)) (filter-map p f xs)
  where
    here : (b : Bool) → map f (filter (λ x. p (f x)) xs) ≡ filter p (map f xs)
        → map f (cond b (x ∷ filter (λ x. p (f x)) xs) (filter (λ x. p (f x)) xs)) ≡ cond b (f x ∷ filter p (map f xs)) (filter p (map f xs))
    here true rest = ap (λ l. f x ∷ l) rest
    here false rest = rest

pub up-to-front : (day : ℤ) (xs : List Adjust) (n : ℕ) → IsEnd day xs n → n ≤ length xs → map event_of (take n xs) ≡ filter (is_due None day) (map event_of xs)
up-to-front day xs n end l =
    ap (map event_of) (sym (filter-run (λ (a : Adjust). int_le a.day day) 0 n xs (omega arith) l (λ k d h. absurd (omega arith)) (λ k d h. end.0 k d (omega arith) h) (λ k d h m. end.1 k d h m)))
    ∙ filter-map (is_due None day) event_of xs

pub due-between : (days : List ℤ) (es : List Event) (s : ℕ) (low high : ℤ) → s ≢ 0 → slice_get days (s - 1) ≡ Some low → slice_get days s ≡ Some high
    → filter (λ e. int_lt low e.day && int_le e.day high) es ≡ filter (is_due (day_before days s) (day_at days s)) es
due-between days es zero low high h before at = absurd (h refl)
due-between days es (suc s) low high h before at =
    let e : suc s - 1 ≡ s = omega arith in
    let first : get_or days s (pos 0) ≡ low = ap (λ (k : ℕ). get_or days k (pos 0)) (sym e) ∙ get_or_from_slice_get days (suc s - 1) low (pos 0) before in
    let second : get_or days (suc s) (pos 0) ≡ high = get_or_from_slice_get days (suc s) high (pos 0) at in
    ap (λ (x : ℤ). filter (is_due (Some x) high) es) (sym first) ∙ ap (λ (x : ℤ). filter (is_due (Some (get_or days s (pos 0))) x) es) (sym second)

-- ---- events

pub event-more : (col : ℕ) (old now : List DayEvent) (adjusts : List Adjust) (i : ℕ) (d : Adjust) (x : DayEvent) → i < length adjusts → column_event x ≡ in_col col (event_of (get_or adjusts i d))
    → map column_event now ≡ map column_event old ++ map (in_col col) (map event_of (take i adjusts))
    → map column_event (now ++ x ∷ []) ≡ map column_event old ++ map (in_col col) (map event_of (take (i + 1) adjusts))
event-more col old now adjusts i d x h is so_far =
    let f : Adjust → ColumnAdjustment = λ a. in_col col (event_of a) in
    map-append column_event now (x ∷ [])
    ∙ ap (λ (l : List ColumnAdjustment). l ++ column_event x ∷ []) so_far
    ∙ ap (λ (y : ColumnAdjustment). (map column_event old ++ map (in_col col) (map event_of (take i adjusts))) ++ y ∷ []) is
    ∙ append_assoc (map column_event old) (map (in_col col) (map event_of (take i adjusts))) (f (get_or adjusts i d) ∷ [])
    ∙ ap (λ (l : List ColumnAdjustment). map column_event old ++ l)
    (sym (ap (λ (l : List Adjust). map (in_col col) (map event_of l)) (take_more adjusts i d h)
    ∙ ap (map (in_col col)) (map-append event_of (take i adjusts) (get_or adjusts i d ∷ []))
    ∙ map-append (in_col col) (map event_of (take i adjusts)) (event_of (get_or adjusts i d) ∷ [])))

module _ (days : List ℤ) (changes : List ColumnAdjustment) (s : ℕ) where
  abbrev pub due_below : ℕ → List ColumnAdjustment
  due_below n = events_due days changes n s

  pub due-more : (n : ℕ) → due_below (n + 1) ≡ due_below n ++ map (in_col n) (col_due days changes s n)
  due-more n =
      let f : ℕ → List ColumnAdjustment = λ col. map (in_col col) (col_due days changes s col) in
      ap (flat_map f) (range-next n) ∙ flat_map-append f (range_with_len 0 n) (n ∷ []) ∙ ap (λ (l : List ColumnAdjustment). flat_map f (range_with_len 0 n) ++ l) (append-nil (f n))

  pub due-few : (n : ℕ) → length (due_below n) ≤ length changes
  due-few n =
      let f : ℕ → List ColumnAdjustment = λ col. map (in_col col) (col_due days changes s col) in
      let long = length-flat_map f (range_with_len 0 n) in
      let few = sum-le (λ k. length (f k)) (λ k. length (filter (λ (x : ColumnAdjustment). x.col == k) changes)) 0 n
      (λ k. omega (arith, length-map (col_due days changes s k) (in_col k), filter-few (is_due (day_before days s) (day_at days s)) (events_at changes k), length-map (filter (λ (x : ColumnAdjustment). x.col == k) changes) (λ x. x.event))) in
      omega (arith, long, few, counted-once (λ (x : ColumnAdjustment). x.col) changes 0 n)

  -- the events of one column more
  pub due-longer : (n : ℕ) (adjusts : List Adjust) → map event_of adjusts ≡ col_due days changes s n → length (due_below (n + 1)) ≡ length (due_below n) + length adjusts
  due-longer n adjusts is =
      omega (arith, ap length (due-more n), length-append (due_below n) (map (in_col n) (col_due days changes s n)), length-map (col_due days changes s n) (in_col n), ap length is, length-map adjusts event_of)
