-- The world of the days that were fed.
use Rattle.std.proofs.Common.{◌≡◌, ℕ, suc, ◌+◌, ◌<◌, Bool, true, false, ◌&&◌, ◌==◌, ℤ, pos, negsuc, ◌<ℤ◌, ◌≤ℤ◌, List, [], ◌∷◌, ◌++◌, length, map, filter, find, get_or, Option, Some, None, option_map, unwrap_or, refl, sym, ◌∙◌, ap, arith, length-append, All, AllPairs}
use Rattle.std.specs.Option.{option_or}
use Rattle.std.specs.List.{list_any}
use Rattle.std.proofs.lemmas.Int.{ints}
use Rattle.std.proofs.lemmas.Bool.{eqb-true, ne_eqb}
use Rattle.std.proofs.lemmas.List.{map-append, append-nil}
use Rattle.circular_buffer.proofs.Places.{slice_get-append_left, slice_get-append_right}
use Rattle.std.proofs.lemmas.List.Kept.{AllPairs-cons, AllPairs-filter}
use Rattle.std.proofs.lemmas.List.Elements.{All-append, All-cons, All-map, filter-append, filter_passes, All-nil}
use Rattle.std.proofs.lemmas.List.Folds.{find-append}
use Rattle.pl_spec.specs.declared.BarRow.{BarRow}
use Rattle.pl_spec.specs.declared.Column.{Column}
use Rattle.pl_spec.specs.Agree.{Agree, is_known}
use Rattle.pl_spec.specs.Parts.{ColumnAdjustment, AreFor, bar_of, adjustment_of, sid_at}
use Rattle.pl_spec.specs.Rounding.{MISSING}
use Rattle.pl_spec.specs.World.{Bar, Event, cell_of, bar_cell, events_of, day_of, exists, lives_on}
use Rattle.pl_spec.proofs.Signed.{lt-is-le, le-lt}
use Rattle.pl_spec.proofs.Lists.{no-pairs}
use Rattle.pl_spec.proofs.Labels.{labels-of_days}
use Rattle.pl_bars.proofs.BarSearch.{find-nothing}
use Rattle.pl_daily.proofs.PartsWorld.{parts_are_a_world}
use Rattle.pl_daily.specs.Days.{Start, FedDay, fed, bar_row, bars_behind, days_of, bars_of, adjustments_of, last_day, IsStart, IsLaterThan, AreFed}
use Rattle.pl_daily.specs.RingLaws.{FedIsAWorld, FedAgrees}

-- ---- lists

pub AllPairs-append : {X : Type 0} (R : X → X → Type 0) (xs ys : List X) → AllPairs R xs → AllPairs R ys → All (λ x. All (R x) ys) xs → AllPairs R (xs ++ ys)
AllPairs-append R [] ys p q across = q
AllPairs-append R (x ∷ xs) ys p q across =
    AllPairs-cons R x (xs ++ ys) (All-append (R x) xs ys (λ k d l. p 0 (suc k) d (omega arith) (omega arith)) (across 0 x (omega arith)))
    (AllPairs-append R xs ys (λ i j d l m. p (suc i) (suc j) d (omega arith) (omega arith)) q (λ k d l. across (suc k) d (omega arith)))

-- ---- what the parts have

pub length-days : (days : List FedDay) → length (days_of days) ≡ length days
length-days [] = refl
length-days (d ∷ earlier) = let l = length-append (days_of earlier) (d.day ∷ []) in let r = length-days earlier in omega (arith, l, r)

one-all : {X : Type 0} (P : X → Type 0) (x : X) → P x → All P (x ∷ [])
one-all P x p = All-cons P x [] p (All-nil P)

module _ (g : Start) where
  -- whatever is later than the last day is later than all that was fed
  pub all_before : (days : List FedDay) → AreFed g days → (day : ℤ) → IsLaterThan (last_day days) day
      → All (λ x. x <ℤ day) (days_of days) × All (λ x. x.event.day <ℤ day) (adjustments_of days)
  all_before [] are day later = (All-nil (λ x. x <ℤ day), All-nil (λ x. x.event.day <ℤ day))
  all_before (d ∷ earlier) are day later =
      let before = all_before earlier are.0 d.day are.1 in (
        All-append (λ x. x <ℤ day) (days_of earlier) (d.day ∷ []) (λ k e l. le-lt _ d.day day (lt-is-le _ _ (before.0 k e l)) later) (one-all (λ x. x <ℤ day) d.day later),
        All-append (λ (x : ColumnAdjustment). x.event.day <ℤ day) (adjustments_of earlier) d.events
            (λ k e l. le-lt _ d.day day (lt-is-le _ _ (before.1 k e l)) later) (λ k e l. le-lt _ d.day day (are.2.due k e l) later),
      )

  days_up : (days : List FedDay) → AreFed g days → AllPairs (λ a b. a <ℤ b) (days_of days)
  days_up [] are = no-pairs (λ a b. a <ℤ b)
  days_up (d ∷ earlier) are =
      AllPairs-append (λ a b. a <ℤ b) (days_of earlier) (d.day ∷ []) (days_up earlier are.0) (λ i j e l m. absurd (omega arith))
      (λ k e l. one-all (λ y. get_or (days_of earlier) k e <ℤ y) d.day ((all_before earlier are.0 d.day are.1).0 k e l))

  bars_known : (days : List FedDay) → AreFed g days → All (λ b. b.col < length g.assets) (bars_of days)
  bars_known [] are = All-nil (λ (b : BarRow). b.col < length g.assets)
  bars_known (d ∷ earlier) are =
      All-append (λ (b : BarRow). b.col < length g.assets) (bars_of earlier) (bars_behind earlier d.bars) (bars_known earlier are.0) (new earlier)
    where
      new : (earlier : List FedDay) → All (λ b. b.col < length g.assets) (bars_behind earlier d.bars)
      new [] = All-nil (λ (b : BarRow). b.col < length g.assets)
      new (e ∷ es) = All-map (λ (b : BarRow). b.col < length g.assets) (bar_row (length es)) d.bars are.2.bars_in

  sessions_known : (days : List FedDay) → AreFed g days → All (λ b. b.session < length (days_of days)) (bars_of days)
  sessions_known [] are = All-nil (λ (b : BarRow). b.session < 0)
  sessions_known (d ∷ earlier) are =
      let more : length (days_of earlier ++ d.day ∷ []) ≡ length (days_of earlier) + 1 = length-append (days_of earlier) (d.day ∷ []) in
      let long : length (days_of earlier) ≡ length earlier = length-days earlier in
      All-append (λ (b : BarRow). b.session < length (days_of earlier ++ d.day ∷ [])) (bars_of earlier) (bars_behind earlier d.bars)
      (λ k e l. let old : (get_or (bars_of earlier) k e).session < length (days_of earlier) = sessions_known earlier are.0 k e l in omega (arith, more, old))
      (new earlier (length (days_of earlier ++ d.day ∷ [])) (omega (arith, more, long)))
    where
      new : (earlier : List FedDay) (n : ℕ) → length earlier < n → All (λ b. b.session < n) (bars_behind earlier d.bars)
      new [] n h = All-nil (λ (b : BarRow). b.session < n)
      new (e ∷ es) n h = All-map (λ (b : BarRow). b.session < n) (bar_row (length es)) d.bars (λ k d' l. omega arith)

  -- the bars handed in up to a day are of earlier sessions
  pub sessions_below : (d : FedDay) (earlier : List FedDay) → AreFed g earlier → All (λ b. b.session < length earlier) (bars_of (d ∷ earlier))
  sessions_below d [] are = All-nil (λ (b : BarRow). b.session < 0)
  sessions_below d (e ∷ es) are =
      let long : length (days_of (e ∷ es)) ≡ length (e ∷ es) = length-days (e ∷ es) in
      All-append (λ (b : BarRow). b.session < suc (length es)) (bars_of (e ∷ es)) (map (bar_row (length es)) d.bars)
      (λ k f l. let old : (get_or (bars_of (e ∷ es)) k f).session < length (days_of (e ∷ es)) = sessions_known (e ∷ es) are k f l in omega (arith, long, old))
      (All-map (λ (b : BarRow). b.session < suc (length es)) (bar_row (length es)) d.bars (λ k f l. omega arith))

  events_known : (days : List FedDay) → AreFed g days → All (λ x. x.col < length g.assets) (adjustments_of days)
  events_known [] are = All-nil (λ (x : ColumnAdjustment). x.col < length g.assets)
  events_known (d ∷ earlier) are =
      All-append (λ (x : ColumnAdjustment). x.col < length g.assets) (adjustments_of earlier) d.events (events_known earlier are.0) are.2.events_in

  events_up : (days : List FedDay) → AreFed g days → AllPairs (λ x y. x.col ≡ y.col → x.event.day ≤ℤ y.event.day) (adjustments_of days)
  events_up [] are = no-pairs (λ (x y : ColumnAdjustment). x.col ≡ y.col → x.event.day ≤ℤ y.event.day)
  events_up (d ∷ earlier) are =
      AllPairs-append (λ (x y : ColumnAdjustment). x.col ≡ y.col → x.event.day ≤ℤ y.event.day) (adjustments_of earlier) d.events (events_up earlier are.0) are.2.by_day
      (λ k e l k' e' l' same. lt-is-le _ _ ((all_before earlier are.0 (get_or d.events k' e').event.day (are.2.new k' e' l')).1 k e l))

  of_column : (xs : List ColumnAdjustment) → AllPairs (λ x y. x.col ≡ y.col → x.event.day ≤ℤ y.event.day) xs
      → (col : ℕ) → AllPairs (λ x y. x.event.day ≤ℤ y.event.day) (filter (λ x. x.col == col) xs)
  of_column xs up col i j d l m =
      let ours = filter_passes (λ (x : ColumnAdjustment). x.col == col) xs in
      let first : (get_or (filter (λ (x : ColumnAdjustment). x.col == col) xs) i d).col ≡ col = eqb-true _ col (ours i d (omega arith)) in
      let second : (get_or (filter (λ (x : ColumnAdjustment). x.col == col) xs) j d).col ≡ col = eqb-true _ col (ours j d m) in
      AllPairs-filter (λ (x y : ColumnAdjustment). x.col ≡ y.col → x.event.day ≤ℤ y.event.day) (λ x. x.col == col) xs up i j d l m (first ∙ sym second)

  pub parts_fit : IsStart g → (days : List FedDay) → AreFed g days → AreFor (days_of days) g.assets g.labels (bars_of days) (adjustments_of days) g.numbers
  parts_fit start days are = record {
    days_ascend = days_up days are;
    sids_ascend = start.sids_ascend;
    labels_in = start.labels_in;
    bars_in = bars_known days are;
    sessions_in = sessions_known days are;
    adjustments_in = events_known days are;
    events_in_order = of_column (adjustments_of days) (events_up days are);
    numbers_in = start.numbers_in;
  }

-- ---- the world is one

pub fed_is_a_world : FedIsAWorld
unfolding fed
fed_is_a_world g days start are = parts_are_a_world (days_of days) g.assets g.labels g.texts (bars_of days) (adjustments_of days) g.numbers (parts_fit g start days are)

-- ---- one more day

pub or-none : {X : Type 0} (o : Option X) → option_or o None ≡ o
or-none None = refl
or-none (Some x) = refl

module _ (g : Start) (now next : FedDay) (earlier : List FedDay) (start : IsStart g) (are : AreFed g (next ∷ now ∷ earlier)) where
  -- the bars of earlier sessions stay
  pub bars_stay : (a : ℕ) (c : Column) (s : ℕ) → s < length earlier → bar_cell (fed g (now ∷ earlier)) a c (pos s) ≡ bar_cell (fed g (next ∷ now ∷ earlier)) a c (pos s)
  unfolding fed
  bars_stay a c s below =
      let p : Bar → Bool = λ b. b.sid == a && b.session == s in
      let new = map (bar_of g.assets) (map (bar_row (length earlier)) next.bars) in
      let miss : All (λ b. p b ≡ false) new = All-map (λ b. p b ≡ false) (bar_of g.assets) (map (bar_row (length earlier)) next.bars)
      (All-map (λ b. p (bar_of g.assets b) ≡ false) (bar_row (length earlier)) next.bars (λ k d l. other (sid_at g.assets (get_or next.bars k d).col == a))) in
      sym (ap (λ o. unwrap_or (option_map (cell_of c) o) MISSING)
      (ap (find p) (map-append (bar_of g.assets) (bars_of (now ∷ earlier)) (map (bar_row (length earlier)) next.bars))
      ∙ find-append p (map (bar_of g.assets) (bars_of (now ∷ earlier))) new
      ∙ ap (option_or (find p (map (bar_of g.assets) (bars_of (now ∷ earlier))))) (find-nothing p new miss)
      ∙ or-none _))
    where
      other : (b : Bool) → (b && length earlier == s) ≡ false
      other true = ne_eqb (length earlier) s (λ e. omega arith)
      other false = refl

  days_stay : (s : ℤ) → s ≤ℤ pos (length earlier) → day_of (fed g (now ∷ earlier)) s ≡ day_of (fed g (next ∷ now ∷ earlier)) s
  unfolding fed
  days_stay (pos s) below =
      let long : length (days_of earlier ++ now.day ∷ []) ≡ length (days_of earlier) + 1 = length-append (days_of earlier) (now.day ∷ []) in
      let many : length (days_of earlier) ≡ length earlier = length-days earlier in
      sym (slice_get-append_left (days_of (now ∷ earlier)) (next.day ∷ []) s (omega (arith, ints, long, many, below)))
  days_stay (negsuc s) below = refl

  last_is : day_of (fed g (now ∷ earlier)) (pos (length earlier)) ≡ Some now.day
  unfolding fed
  last_is =
      let many : length (days_of earlier) ≡ length earlier = length-days earlier in
      slice_get-append_right (days_of earlier) (now.day ∷ []) (length earlier) 0 (omega (arith, many))

  not_known : (a : ℕ) (xs : List ColumnAdjustment) → All (λ x. now.day <ℤ x.event.day) xs
      → filter (is_known now.day) (map (λ x. x.event) (filter (λ x. x.sid == a) (map (adjustment_of g.assets) xs))) ≡ []
  not_known a [] h = refl
  not_known a (x ∷ xs) h = here (sid_at g.assets x.col == a) refl (not_known a xs (λ k d l. h (suc k) d (omega arith)))
    where
      late : is_known now.day x.event ≡ false
      late = let l : now.day <ℤ x.event.day = h 0 x (omega arith) in grind (arith, ints)

      here : (b : Bool) → (sid_at g.assets x.col == a) ≡ b
          → filter (is_known now.day) (map (λ x. x.event) (filter (λ x. x.sid == a) (map (adjustment_of g.assets) xs))) ≡ []
          → filter (is_known now.day) (map (λ x. x.event) (filter (λ x. x.sid == a) (map (adjustment_of g.assets) (x ∷ xs)))) ≡ []
      here true e rest = rw (e, late) rest
      here false e rest = rw e rest

  events_stay : (a : ℕ) → filter (is_known now.day) (events_of (fed g (now ∷ earlier)) a) ≡ filter (is_known now.day) (events_of (fed g (next ∷ now ∷ earlier)) a)
  unfolding fed
  events_stay a =
      let old = adjustments_of (now ∷ earlier) in
      let of_sid : List ColumnAdjustment → List Event = λ xs. map (λ x. x.event) (filter (λ x. x.sid == a) (map (adjustment_of g.assets) xs)) in
      let parted : of_sid (old ++ next.events) ≡ of_sid old ++ of_sid next.events =
      ap (λ l. map (λ x. x.event) (filter (λ x. x.sid == a) l)) (map-append (adjustment_of g.assets) old next.events)
      ∙ ap (map (λ x. x.event)) (filter-append (λ x. x.sid == a) (map (adjustment_of g.assets) old) (map (adjustment_of g.assets) next.events))
      ∙ map-append (λ x. x.event) (filter (λ x. x.sid == a) (map (adjustment_of g.assets) old)) (filter (λ x. x.sid == a) (map (adjustment_of g.assets) next.events)) in
      sym (ap (filter (is_known now.day)) parted ∙ filter-append (is_known now.day) (of_sid old) (of_sid next.events)
      ∙ ap (λ l. filter (is_known now.day) (of_sid old) ++ l) (not_known a next.events are.2.new) ∙ append-nil _)

  lives_on_day : (a : ℕ) (s : ℤ) → s ≤ℤ pos (length earlier) → exists (fed g (now ∷ earlier)) a s ≡ exists (fed g (next ∷ now ∷ earlier)) a s
  unfolding fed
  lives_on_day a s below =
      ap (λ o. list_any (λ x. x == a) (unwrap_or (option_map (λ day. map (λ a. a.sid) (filter (lives_on day) g.assets)) o) [])) (days_stay s below)

  pub agrees : Agree (fed g (now ∷ earlier)) (fed g (next ∷ now ∷ earlier)) (pos (length earlier)) now.day
  unfolding fed
  agrees = record {
    is_day = last_is;
    days = days_stay;
    bars = λ a c s below. on_bars a c s below;
    adjustments = events_stay;
    lifetimes = lives_on_day;
    labels = λ name a s below. labels-of_days (fed g (now ∷ earlier)) (fed g (next ∷ now ∷ earlier)) refl name a s (days_stay s below);
    numbers = λ f name a x below. refl;
  }
    where
      on_bars : (a : ℕ) (c : Column) (s : ℤ) → s <ℤ pos (length earlier) → bar_cell (fed g (now ∷ earlier)) a c s ≡ bar_cell (fed g (next ∷ now ∷ earlier)) a c s
      on_bars a c (pos s) below = bars_stay a c s (omega (arith, ints, below))
      on_bars a c (negsuc s) below = refl

pub fed_agrees : FedAgrees
fed_agrees g now next earlier start are = agrees g now next earlier start are
