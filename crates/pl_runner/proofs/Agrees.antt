-- The world of the days that were fed, and the whole world: they are the same in all that was known.
use Rattle.std.proofs.Common.{◌≡◌, ◌≢◌, ℕ, zero, suc, ◌<◌, ◌≤◌, ◌⊎◌, ◌==◌, Bool, true, false, ℤ, pos, negsuc, ◌<ℤ◌, ◌≤ℤ◌, List, [], ◌∷◌, ◌++◌, length, map, filter, find, All, Option, option_map, unwrap_or, refl, sym, ◌∙◌, ap, arith, inl, inr, slice_get}
use Rattle.std.specs.List.{range_with_len, list_any}
use Rattle.std.specs.Option.{option_or}
use Rattle.std.proofs.lemmas.Bool.{cases_lt, eq-eqb, eqb-true, ne_eqb, and_from, and_left, and_right}
use Rattle.std.proofs.lemmas.Int.{ints}
use Rattle.std.proofs.lemmas.List.Elements.{All-map}
use Rattle.std.proofs.lemmas.List.Folds.{find-append}
use Rattle.std.proofs.lemmas.Option.{slice_get-get_or}
use Rattle.std.proofs.lemmas.Simd.{map-map}
use Rattle.pl_spec.specs.declared.AssetRow.{AssetRow}
use Rattle.pl_spec.specs.declared.BarRow.{BarRow}
use Rattle.pl_spec.specs.declared.Column.{Column}
use Rattle.pl_spec.specs.declared.Column.TheVariants.{OpenPrice}
use Rattle.pl_spec.specs.Agree.{Agree, is_known}
use Rattle.pl_spec.specs.Parts.{AreFor, ColumnAdjustment, adjustment_of, bar_of, sid_at}
use Rattle.pl_spec.specs.Rounding.{MISSING}
use Rattle.pl_spec.specs.World.{Event, bar_cell, cell_in, day_of, events_of, exists, lives_on}
use Rattle.pl_spec.proofs.Lists.{filter-filter}
use Rattle.pl_laws.proofs.AsOf.{slice_get-take}
use Rattle.pl_spec.proofs.Labels.{labels-of_days}
use Rattle.pl_bars.specs.Bars.{cell_at, cell_of, is_at}
use Rattle.pl_bars.proofs.BarWorlds.{cells_raw}
use Rattle.pl_adjust.specs.Columns.{events_at}
use Rattle.pl_world.specs.declared.world.World.{World}
use Rattle.pl_world.specs.Worlds.{AreSound, world_of}
use Rattle.pl_bars.proofs.BarSearch.{find-nothing}
use Rattle.pl_daily.specs.Days.{adjustments_of, bar_row, bars_of, days_of, fed}
use Rattle.pl_daily.proofs.Fed.{or-none, parts_fit, sessions_below}
use Rattle.pl_daily.proofs.Moves.{events_at-append}
use Rattle.pl_daily.proofs.PartsWorld.{events_by-at}
use Rattle.pl_runner.specs.Days.{bar_at, col_due, day_at, events_due, fed_day, fed_days, fed_world, start_of_world}
use Rattle.pl_runner.proofs.Lists.{find-range}
use Rattle.pl_runner.proofs.Merges.{known-split, inside}
use Rattle.pl_runner.proofs.Following.{are_fed, days-are, events-up, many, start}

-- ---- sids

-- a sid is that of a column, or of none
there : (x : AssetRow) (xs : List AssetRow) (a : ℕ) (b : Bool) → (x.sid == a) ≡ b → ((col : ℕ) → col < length xs → sid_at xs col ≢ a)
    → ((col : ℕ) × (col < length (x ∷ xs)) × (sid_at (x ∷ xs) col ≡ a)) ⊎ ((col : ℕ) → col < length (x ∷ xs) → sid_at (x ∷ xs) col ≢ a)
there x xs a true e apart = inl (0, omega arith, eqb-true x.sid a e)
there x xs a false e apart = inr each
  where
    each : (col : ℕ) → col < length (x ∷ xs) → sid_at (x ∷ xs) col ≢ a
    each zero h = λ same. (let t : (x.sid == a) ≡ true = eq-eqb x.sid a same in let bad : true ≡ false = sym t ∙ e in cc)
    each (suc col) h = apart col (omega arith)

of_column : (assets : List AssetRow) (a : ℕ) → ((col : ℕ) × (col < length assets) × (sid_at assets col ≡ a)) ⊎ ((col : ℕ) → col < length assets → sid_at assets col ≢ a)
of_column [] a = inr (λ col h. absurd (omega arith))
of_column (x ∷ xs) a = elim (of_column xs a) [
  | inl at ↦ inl (suc at.0, omega (arith, at.1), at.2)
  | inr apart ↦ there x xs a (x.sid == a) refl apart
]

no-events : (assets : List AssetRow) (xs : List ColumnAdjustment) (a : ℕ) → All (λ x. x.col < length assets) xs → ((col : ℕ) → col < length assets → sid_at assets col ≢ a)
    → map (λ x. x.event) (filter (λ x. x.sid == a) (map (adjustment_of assets) xs)) ≡ []
no-events assets [] a all apart = refl
no-events assets (x ∷ xs) a all apart =
    let miss : (sid_at assets x.col == a) ≡ false = ne_eqb (sid_at assets x.col) a (apart x.col (all 0 x (omega arith))) in
    rw miss (no-events assets xs a (λ k d l. all (suc k) d (omega arith)) apart)

no-bar : (assets : List AssetRow) (bars : List BarRow) (a : ℕ) (c : Column) (s : ℕ) → All (λ b. b.col < length assets) bars → ((col : ℕ) → col < length assets → sid_at assets col ≢ a)
    → cell_in (map (bar_of assets) bars) a c s ≡ MISSING
no-bar assets [] a c s all apart = refl
no-bar assets (b ∷ bars) a c s all apart =
    let miss : (sid_at assets b.col == a) ≡ false = ne_eqb (sid_at assets b.col) a (apart b.col (all 0 b (omega arith))) in
    rw miss (no-bar assets bars a c s (λ k d l. all (suc k) d (omega arith)) apart)

-- the cell of a column in a bar
own-cell : (rows : List BarRow) (s col : ℕ) (c : Column) → cell_of c (bar_row s (bar_at rows s col)) ≡ cell_at rows col c s
own-cell rows s col OpenPrice = refl
own-cell rows s col c = refl

-- a bar that stands after others, or before them
cell-front : (old new : List BarRow) (col : ℕ) (c : Column) (s : ℕ) → All (λ b. is_at col s b ≡ false) new → cell_at (old ++ new) col c s ≡ cell_at old col c s
unfolding cell_at
cell-front old new col c s miss =
    ap (λ (o : Option BarRow). unwrap_or (option_map (cell_of c) o) MISSING)
    (find-append (is_at col s) old new ∙ ap (option_or (find (is_at col s) old)) (find-nothing (is_at col s) new miss) ∙ or-none (find (is_at col s) old))

cell-back : (old new : List BarRow) (col : ℕ) (c : Column) (s : ℕ) → All (λ b. is_at col s b ≡ false) old → cell_at (old ++ new) col c s ≡ cell_at new col c s
unfolding cell_at
cell-back old new col c s miss =
    ap (λ (o : Option BarRow). unwrap_or (option_map (cell_of c) o) MISSING)
    (find-append (is_at col s) old new ∙ ap (λ (o : Option BarRow). option_or o (find (is_at col s) new)) (find-nothing (is_at col s) old miss))

abbrev session_bars : List BarRow → ℕ → ℕ → List BarRow
session_bars rows assets n = map (bar_row n) (map (bar_at rows n) (range_with_len 0 assets))

new-cell : (rows : List BarRow) (assets n col : ℕ) (c : Column) → col < assets → cell_at (session_bars rows assets n) col c n ≡ cell_at rows col c n
unfolding cell_at
new-cell rows assets n col c h =
    ap (λ (o : Option BarRow). unwrap_or (option_map (cell_of c) o) MISSING)
    (ap (find (is_at col n)) (map-map (bar_row n) (bar_at rows n) (range_with_len 0 assets))
    ∙ find-range (is_at col n) (λ i. bar_row n (bar_at rows n i)) col (and_from (col == col) (n == n) (eq-eqb col col refl) (eq-eqb n n refl)) (λ i e. and_left (i == col) (n == n) (ne_eqb i col e)) 0 assets (omega arith) (omega arith))
    ∙ own-cell rows n col c

module _ (w : World) (sound : AreSound w) where
  abbrev count : ℕ
  count = length w.assets.now

  abbrev own_days : List ℤ
  own_days = w.sessions.now

  abbrev changes : List ColumnAdjustment
  changes = w.adjustments.now

  -- ---- bars

  bars-next : (n : ℕ) → bars_of (fed_days w (suc (suc n))) ≡ bars_of (fed_days w (suc n)) ++ session_bars w.bars.now count n
  bars-next n = ap (λ (m : ℕ). bars_of (fed_days w (suc n)) ++ map (bar_row m) (map (bar_at w.bars.now n) (range_with_len 0 count))) (many w n)

  fed-cell : (n : ℕ) → n ≤ length own_days → (col : ℕ) → col < count → (c : Column) (s : ℕ) → suc s < n → cell_at (bars_of (fed_days w n)) col c s ≡ cell_at w.bars.now col c s
  fed-cell zero m col h c s l = absurd (omega arith)
  fed-cell (suc zero) m col h c s l = absurd (omega arith)
  fed-cell (suc (suc n)) m col h c s l =
      ap (λ (bars : List BarRow). cell_at bars col c s) (bars-next n)
      ∙ elim (cases_lt s n) [
        | inl earlier ↦
            cell-front (bars_of (fed_days w (suc n))) (session_bars w.bars.now count n) col c s (All-map (λ b. is_at col s b ≡ false) (bar_row n) (map (bar_at w.bars.now n) (range_with_len 0 count))
            (λ k d i. and_right _ _ (ne_eqb n s (λ e. omega (arith, e, earlier)))))
            ∙ fed-cell (suc n) (omega arith) col h c s (omega arith)
        | inr not_earlier ↦ (let same : n ≡ s = omega (arith, not_earlier) in
            cell-back (bars_of (fed_days w (suc n))) (session_bars w.bars.now count n) col c s
            (λ k d i. let below = sessions_below (start_of_world w) (fed_day w n) (fed_days w n) (are_fed w sound n (omega arith)) k d i in and_right _ _ (ne_eqb _ s (λ e. omega (arith, e, below, many w n, same))))
            ∙ ap (λ (k : ℕ). cell_at (session_bars w.bars.now count n) col c k) (sym same)
            ∙ new-cell w.bars.now count n col c h
            ∙ ap (cell_at w.bars.now col c) same)
      ]

  -- ---- adjustments

  fed-events : (n : ℕ) → n < length own_days → (col : ℕ) → col < count → events_at (adjustments_of (fed_days w (suc n))) col ≡ filter (is_known (day_at own_days n)) (events_at changes col)
  fed-events zero m col h = inside (λ k. col_due own_days changes 0 k) col 0 count (omega arith) (omega arith)
  fed-events (suc n) m col h =
      let rise : day_at own_days n <ℤ day_at own_days (suc n) = sound.days.ascend n (suc n) (pos 0) (omega arith) m in
      let up : day_at own_days n ≤ℤ day_at own_days (suc n) = omega (arith, ints) in
      events_at-append (adjustments_of (fed_days w (suc n))) (events_due own_days changes count (suc n)) col
      ∙ ap (λ (es : List Event). es ++ events_at (events_due own_days changes count (suc n)) col) (fed-events n (omega arith) col h)
      ∙ ap (λ (es : List Event). filter (is_known (day_at own_days n)) (events_at changes col) ++ es) (inside (λ k. col_due own_days changes (suc n) k) col 0 count (omega arith) (omega arith))
      ∙ sym (known-split (day_at own_days n) (day_at own_days (suc n)) up (events_at changes col) (events-up changes sound.in_order col))

  -- ---- all together

  module _ (n : ℕ) (inside_days : n < length own_days) where
    abbrev fed_bars : List BarRow
    fed_bars = bars_of (fed_days w (suc n))

    fits : AreFor (days_of (fed_days w (suc n))) w.assets.now w.labels.now.rows fed_bars (adjustments_of (fed_days w (suc n))) w.numbers.now.rows
    fits = parts_fit (start_of_world w) (start w sound) (fed_days w (suc n)) (are_fed w sound (suc n) (omega arith))

    same-days : (s : ℤ) → s ≤ℤ pos n → day_of (fed_world w (suc n)) s ≡ day_of (world_of w) s
    unfolding fed
    same-days (pos s) below = ap (λ (l : List ℤ). slice_get l s) (days-are w sound (suc n) (omega arith)) ∙ slice_get-take own_days (suc n) s (omega (arith, ints, below))
    same-days (negsuc s) below = refl

    same-bars : (a : ℕ) (c : Column) (s : ℤ) → s <ℤ pos n → bar_cell (fed_world w (suc n)) a c s ≡ bar_cell (world_of w) a c s
    unfolding fed
    same-bars a c (negsuc s) below = refl
    same-bars a c (pos s) below = elim (of_column w.assets.now a) [
      | inr none ↦ no-bar w.assets.now fed_bars a c s fits.bars_in none ∙ sym (no-bar w.assets.now w.bars.now a c s sound.made.bars_in none)
      | inl at ↦ (
          let fed_is = cells_raw (days_of (fed_days w (suc n))) w.assets.now w.labels.now.rows w.labels.now.texts fed_bars (adjustments_of (fed_days w (suc n))) w.numbers.now.rows sound.assets.ascend fits.bars_in at.0 c s at.1 in
          let own_is = cells_raw w.sessions.now w.assets.now w.labels.now.rows w.labels.now.texts w.bars.now w.adjustments.now w.numbers.now.rows sound.assets.ascend sound.made.bars_in at.0 c s at.1 in
          rw (← at.2) (sym fed_is ∙ fed-cell (suc n) (omega arith) at.0 at.1 c s (omega (arith, ints, below)) ∙ own_is))
    ]

    same-events : (a : ℕ) → filter (is_known (day_at own_days n)) (events_of (fed_world w (suc n)) a) ≡ filter (is_known (day_at own_days n)) (events_of (world_of w) a)
    unfolding fed
    same-events a = elim (of_column w.assets.now a) [
      | inr none ↦ ap (filter (is_known (day_at own_days n)))
          (no-events w.assets.now (adjustments_of (fed_days w (suc n))) a fits.adjustments_in none ∙ sym (no-events w.assets.now changes a sound.made.adjustments_in none))
      | inl at ↦ (
          let fed_is = events_by-at w.assets.now (adjustments_of (fed_days w (suc n))) sound.assets.ascend fits.adjustments_in at.0 at.1 in
          let own_is = events_by-at w.assets.now changes sound.assets.ascend sound.made.adjustments_in at.0 at.1 in
          rw (← at.2) (ap (filter (is_known (day_at own_days n))) (fed_is ∙ fed-events n inside_days at.0 at.1)
          ∙ filter-filter (is_known (day_at own_days n)) (is_known (day_at own_days n)) (λ e p. p) (events_at changes at.0)
          ∙ ap (filter (is_known (day_at own_days n))) (sym own_is)))
    ]

    same-lives : (a : ℕ) (s : ℤ) → s ≤ℤ pos n → exists (fed_world w (suc n)) a s ≡ exists (world_of w) a s
    unfolding fed
    same-lives a s below =
        ap (λ o. list_any (λ x. x == a) (unwrap_or (option_map (λ day. map (λ a. a.sid) (filter (lives_on day) w.assets.now)) o) [])) (same-days s below)

    pub agree : Agree (fed_world w (suc n)) (world_of w) (pos n) (day_at own_days n)
    unfolding fed
    agree =
        record {
          is_day = same-days (pos n) (omega (arith, ints)) ∙ slice_get-get_or own_days n (pos 0) inside_days;
          days = same-days;
          bars = same-bars;
          adjustments = same-events;
          lifetimes = same-lives;
          labels = λ name a s below. labels-of_days (fed_world w (suc n)) (world_of w) refl name a s (same-days s below);
          numbers = λ f name a x below. refl;
        }
