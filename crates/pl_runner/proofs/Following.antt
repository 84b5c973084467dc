-- Each day of a world may follow those before it.
use Rattle.std.proofs.Common.{◌≡◌, ℕ, zero, suc, ◌+◌, ◌<◌, ◌≤◌, true, ℤ, pos, ◌<ℤ◌, ◌≤ℤ◌, List, [], ◌∷◌, ◌++◌, length, map, filter, take, get_or, All, AllPairs, Some, None, ◌==◌, refl, sym, ◌∙◌, ap, arith}
use Rattle.std.specs.List.{range_with_len}
use Rattle.std.specs.Int.RustNames.{int_lt, int_le}
use Rattle.std.proofs.lemmas.Int.{ints}
use Rattle.std.proofs.lemmas.List.{take_more}
use Rattle.std.proofs.lemmas.List.Elements.{All-cons, All-map, All-filter, filter_passes, All-nil}
use Rattle.std.proofs.lemmas.List.Kept.{AllPairs-filter}
use Rattle.pl_spec.specs.declared.Column.TheVariants.{OpenPrice, High, Low, Close, Volume}
use Rattle.pl_spec.specs.Parts.{ColumnAdjustment}
use Rattle.pl_spec.specs.Rounding.{IsCell}
use Rattle.pl_spec.specs.World.{Event}
use Rattle.pl_spec.proofs.Ranges.{range-rises}
use Rattle.pl_spec.proofs.Lists.{no-pairs}
use Rattle.pl_bars.specs.Bars.{cell_at}
use Rattle.pl_bars.proofs.BarSearch.{cell_at-IsCell}
use Rattle.pl_adjust.specs.Columns.{AreByDay, events_at}
use Rattle.pl_adjust.specs.Events.{PutsCell}
use Rattle.pl_adjust.proofs.Kept.{cells_at}
use Rattle.pl_world.specs.declared.world.World.{World}
use Rattle.pl_world.specs.Worlds.{AreSound}
use Rattle.pl_daily.specs.declared.day.DayBar.{DayBar}
use Rattle.pl_daily.specs.Days.{IsStart, IsLaterThan, AreFed, MayFollow, days_of, last_day}
use Rattle.pl_runner.specs.Feeds.{day_before, is_due}
use Rattle.pl_runner.specs.Days.{bar_at, bars_due, col_due, day_at, events_due, fed_day, fed_days, in_col, start_of_world}
use Rattle.pl_runner.proofs.Lists.{range-within, AllPairs-map, flat-all, flat-pairs}

due-by : (last : _) (day : ℤ) (e : Event) → is_due last day e ≡ true → e.day ≤ℤ day
due-by None day e p = grind (arith, ints)
due-by (Some last) day e p = let q : int_le e.day day ≡ true = grind (p, arith) in grind (arith, ints)

due-later : (last day : ℤ) (e : Event) → is_due (Some last) day e ≡ true → last <ℤ e.day
due-later last day e p = let q : int_lt last e.day ≡ true = grind (p, arith) in grind (arith, ints)

pub events-up : (xs : List ColumnAdjustment) → AreByDay xs → (col : ℕ) → AllPairs (λ e f. e.day ≤ℤ f.day) (events_at xs col)
events-up xs up col = AllPairs-map (λ (e f : Event). e.day ≤ℤ f.day) (λ (x : ColumnAdjustment). x.event) (filter (λ x. x.col == col) xs) (up col)

pub many : (w : World) (s : ℕ) → length (fed_days w s) ≡ s
many w zero = refl
many w (suc s) = ap suc (many w s)

module _ (w : World) (sound : AreSound w) where
  abbrev count : ℕ
  count = length w.assets.now

  abbrev own_days : List ℤ
  own_days = w.sessions.now

  abbrev changes : List ColumnAdjustment
  changes = w.adjustments.now

  pub start : IsStart (start_of_world w)
  start = record { sids_ascend = sound.assets.ascend; labels_in = sound.made.labels_in; numbers_in = sound.made.numbers_in }

  pub later : (s : ℕ) → s < length own_days → IsLaterThan (last_day (fed_days w s)) (day_at own_days s)
  later zero h = tt
  later (suc s) h = sound.days.ascend s (suc s) (pos 0) (omega arith) h

  bars-ascend : (s : ℕ) → AllPairs (λ (b c : DayBar). b.col < c.col) (bars_due w.bars.now count s)
  bars-ascend zero = no-pairs (λ (b c : DayBar). b.col < c.col)
  bars-ascend (suc s) = AllPairs-map (λ (b c : DayBar). b.col < c.col) (bar_at w.bars.now s) (range_with_len 0 count) (range-rises 0 count)

  bars-in : (s : ℕ) → All (λ (b : DayBar). b.col < count) (bars_due w.bars.now count s)
  bars-in zero = All-nil (λ (b : DayBar). b.col < count)
  bars-in (suc s) = All-map (λ (b : DayBar). b.col < count) (bar_at w.bars.now s) (range_with_len 0 count) (λ i d l. let r = range-within 0 count i d l in omega (arith, r))

  bar-cells : (s : ℕ) → All (λ (b : DayBar). All IsCell b.cells) (bars_due w.bars.now count s)
  bar-cells zero = All-nil (λ (b : DayBar). All IsCell b.cells)
  bar-cells (suc s) = All-map (λ (b : DayBar). All IsCell b.cells) (bar_at w.bars.now s) (range_with_len 0 count) (λ i d l. five (get_or (range_with_len 0 count) i d))
    where
      five : (col : ℕ) → All IsCell (bar_at w.bars.now s col).cells
      five col =
          let a = cell_at w.bars.now col OpenPrice s in
          let b = cell_at w.bars.now col High s in
          let c = cell_at w.bars.now col Low s in
          let d = cell_at w.bars.now col Close s in
          let e = cell_at w.bars.now col Volume s in
          All-cons IsCell a (b ∷ c ∷ d ∷ e ∷ []) (cell_at-IsCell w.bars.now col OpenPrice s sound.bars)
          (All-cons IsCell b (c ∷ d ∷ e ∷ []) (cell_at-IsCell w.bars.now col High s sound.bars)
          (All-cons IsCell c (d ∷ e ∷ []) (cell_at-IsCell w.bars.now col Low s sound.bars)
          (All-cons IsCell d (e ∷ []) (cell_at-IsCell w.bars.now col Close s sound.bars)
          (All-cons IsCell e [] (cell_at-IsCell w.bars.now col Volume s sound.bars) (All-nil IsCell)))))

  abbrev own : ℕ → ℕ → List Event
  own s col = col_due own_days changes s col

  -- what is true of each event of each column
  all-due : (P : ColumnAdjustment → Type 0) (s : ℕ) → ((k : ℕ) → k < count → All (λ e. P (in_col k e)) (own s k)) → All P (events_due own_days changes count s)
  all-due P s h = flat-all P (λ col. map (in_col col) (own s col)) 0 count (λ k l m. All-map P (in_col k) (own s k) (h k (omega arith)))

  passes : (s k : ℕ) → All (λ e. is_due (day_before own_days s) (day_at own_days s) e ≡ true) (own s k)
  passes s k = filter_passes (is_due (day_before own_days s) (day_at own_days s)) (events_at changes k)

  new-events : (s : ℕ) → All (λ x. IsLaterThan (last_day (fed_days w s)) x.event.day) (events_due own_days changes count s)
  new-events zero = all-due (λ x. IsLaterThan (last_day (fed_days w 0)) x.event.day) zero (λ k h i d l. tt)
  new-events (suc s) = all-due (λ x. IsLaterThan (last_day (fed_days w (suc s))) x.event.day) (suc s) (λ k h i d l. due-later (day_at own_days s) (day_at own_days (suc s)) (get_or (own (suc s) k) i d) (passes (suc s) k i d l))

  abbrev InOrder : ColumnAdjustment → ColumnAdjustment → Type 0
  InOrder x y = x.col ≡ y.col → x.event.day ≤ℤ y.event.day

  by-day : (s : ℕ) → AllPairs InOrder (events_due own_days changes count s)
  by-day s =
      flat-pairs InOrder (λ col. map (in_col col) (own s col)) 0 count
      (λ k. AllPairs-map InOrder (in_col k) (own s k) (λ i j d l m same. up k i j d l m))
      (λ j k less. All-map (λ x. All (InOrder x) (map (in_col k) (own s k))) (in_col j) (own s j)
      (λ i d l. All-map (InOrder (in_col j (get_or (own s j) i d))) (in_col k) (own s k) (λ i' d' l' same. absurd (omega (arith, less, same)))))
    where
      up : (k : ℕ) → AllPairs (λ (e f : Event). e.day ≤ℤ f.day) (own s k)
      up k = AllPairs-filter (λ (e f : Event). e.day ≤ℤ f.day) (is_due (day_before own_days s) (day_at own_days s)) (events_at changes k) (events-up changes sound.in_order k)

  first-none : (s : ℕ) → fed_days w s ≡ [] → bars_due w.bars.now count s ≡ []
  first-none zero e = refl
  first-none (suc s) e = absurd (let n : suc (length (fed_days w s)) ≡ 0 = ap length e in omega (arith, n))

  pub may_follow : (s : ℕ) → s < length own_days → MayFollow (start_of_world w) (fed_days w s) (fed_day w s)
  may_follow s h =
      record {
        is_day = sound.days.dates s (pos 0) h;
        first_has_no_bars = first-none s;
        bars_ascend = bars-ascend s;
        bars_in = bars-in s;
        cells = bar-cells s;
        events_in = all-due (λ x. x.col < count) s (λ k l i d m. l);
        put_cells = all-due (λ x. PutsCell x.event) s (λ k l. All-filter (is_due (day_before own_days s) (day_at own_days s)) PutsCell (events_at changes k) (cells_at changes k sound.puts));
        new = new-events s;
        due = all-due (λ x. x.event.day ≤ℤ day_at own_days s) s (λ k l i d m. due-by (day_before own_days s) (day_at own_days s) (get_or (own s k) i d) (passes s k i d m));
        by_day = by-day s;
      }

  pub are_fed : (s : ℕ) → s ≤ length own_days → AreFed (start_of_world w) (fed_days w s)
  are_fed zero h = tt
  are_fed (suc s) h = (are_fed s (omega arith), later s (omega arith), may_follow s (omega arith))

  pub days-are : (s : ℕ) → s ≤ length own_days → days_of (fed_days w s) ≡ take s own_days
  days-are zero h = refl
  days-are (suc s) h =
      let more : suc s ≡ s + 1 = omega arith in
      ap (λ (l : List ℤ). l ++ day_at own_days s ∷ []) (days-are s (omega arith))
      ∙ sym (take_more own_days s (pos 0) (omega arith)) ∙ ap (λ (n : ℕ). take n own_days) (sym more)
