-- What one more day does to the rings of bar columns.
use Rattle.std.proofs.Common.{◌≡◌, ℕ, zero, suc, ◌+◌, ◌-◌, ◌<◌, ◌≤◌, Bool, true, false, ◌&&◌, ◌==◌, cond, ℤ, pos, negsuc, ◌<ℤ◌, ◌≤ℤ◌, ◌+ℤ◌, List, [], ◌∷◌, ◌++◌, length, map, filter, filter_map, find, drop, replicate, get_or, Option, Some, None, option_map, unwrap_or, refl, sym, ◌∙◌, ap, arith, length-append, All}
use Rattle.std.specs.Option.{option_or}
use Rattle.std.specs.Int.RustNames.{int_le, int_lt}
use Rattle.std.proofs.Math.Path.{fun_ext}
use Rattle.std.proofs.lemmas.Int.{ints}
use Rattle.std.proofs.lemmas.Bool.{eq-eqb, ne_eqb}
use Rattle.std.proofs.lemmas.List.{map-append, length-map}
use Rattle.std.proofs.lemmas.Option.{slice_get-get_or}
use Rattle.std.proofs.lemmas.List.Elements.{All-map, All-filter, filter-append, filter_map-append}
use Rattle.std.proofs.lemmas.List.Folds.{find-append}
use Rattle.std.proofs.lemmas.List.Sums.{fold-append}
use Rattle.std.proofs.lemmas.Simd.{zip2-map}
use Rattle.circular_buffer.specs.Buffer.{keep_last}
use Rattle.circular_buffer.proofs.Places.{slice_get-append_left, slice_get-append_right}
use Rattle.pl_spec.specs.declared.Column.{Column}
use Rattle.pl_spec.specs.Agree.{Agree}
use Rattle.pl_spec.specs.Parts.{ColumnAdjustment, sid_at}
use Rattle.pl_spec.specs.Rounding.{MISSING}
use Rattle.pl_spec.specs.World.{World, Event, bar_cell, events_of, day_of}
use Rattle.pl_spec.specs.Window.{effect, changed, is_between, after_all, before, downward, effects_in, seen_cell}
use Rattle.pl_spec.proofs.Lists.{filter-same}
use Rattle.pl_spec.proofs.Windows.{length-downward, no-effects}
use Rattle.pl_bars.specs.Bars.{cell_of, is_at, cell_at}
use Rattle.pl_bars.proofs.BarSearch.{find-nothing}
use Rattle.pl_bars.proofs.BarWorlds.{cells_raw}
use Rattle.pl_daily.specs.declared.day.DayBar.{DayBar}
use Rattle.pl_daily.specs.Days.{Start, FedDay, fed, bar_row, days_of, bars_of, adjustments_of, IsStart, AreFed, cell_brought, day_back, day_window}
use Rattle.pl_daily.specs.Rings.{acting, bar_ring, changed_cells}
use Rattle.pl_daily.specs.RingLaws.{BarRingsMove, DaysAreFed}
use Rattle.pl_daily.proofs.Fed.{all_before, parts_fit, agrees, length-days, sessions_below}
use Rattle.pl_daily.proofs.PartsWorld.{events_by-at}
use Rattle.pl_adjust.specs.Columns.{events_at}

-- ---- lists

snoc : {X : Type 0} (f : ℕ → X) (n : ℕ) → map f (downward (suc n)) ≡ map (λ m. f (suc m)) (downward n) ++ f 0 ∷ []
snoc f zero = refl
snoc f (suc n) = ap (λ l. f (suc n) ∷ l) (snoc f n)

-- a window that has moved on by one
pub slides : {X : Type 0} (size : ℕ) (f g : ℕ → X) (x : X) → g 0 ≡ x → ((m : ℕ) → g (suc m) ≡ f m) → map g (downward size) ≡ keep_last size (map f (downward size) ++ x ∷ [])
slides zero f g x e h = refl
slides (suc n) f g x e h =
    let long : length (map f (downward n) ++ x ∷ []) ≡ n + 1 = length-append (map f (downward n)) (x ∷ []) ∙ ap (λ m. m + 1) (length-map (downward n) f ∙ length-downward n) in
    let one : suc (length (map f (downward n) ++ x ∷ [])) - suc n ≡ 1 = omega (arith, long) in
    snoc g n
    ∙ ap (λ l. l ++ g 0 ∷ []) (ap (λ k. map k (downward n)) (fun_ext h))
    ∙ ap (λ y. map f (downward n) ++ y ∷ []) e
    ∙ sym (ap (λ k. drop k (f n ∷ (map f (downward n) ++ x ∷ []))) one)

pub ends : {X : Type 0} (f : ℕ → X) (small size : ℕ) → small ≤ size → keep_last small (map f (downward size)) ≡ map f (downward small)
ends f small size h =
    ap (λ n. drop (n - small) (map f (downward size))) (length-map (downward size) f ∙ length-downward size)
    ∙ here (size - small) size small (omega arith)
  where
    here : (k size small : ℕ) → size ≡ k + small → drop (size - small) (map f (downward size)) ≡ map f (downward small)
    here zero size small e = let same : size ≡ small = omega (arith, e) in let none : size - small ≡ 0 = omega (arith, e) in rw (none, same) refl
    here (suc k) size small e =
        let is : size ≡ suc (k + small) = omega (arith, e) in
        let more : suc (k + small) - small ≡ suc (k + small - small) = omega arith in
        rw (is, more) (here k (k + small) small refl)

pub constant : {X : Type 0} (f : ℕ → X) (x : X) (size : ℕ) → ((n : ℕ) → f n ≡ x) → map f (downward size) ≡ replicate size x
constant f x zero h = refl
constant f x (suc size) h = ap (λ y. y ∷ map f (downward size)) (h size) ∙ ap (λ l. x ∷ l) (constant f x size h)

-- a window that has moved on by one, as one over the numbers below its size
abbrev pub with_newest : {X : Type 0} → X → (ℕ → X) → ℕ → X
with_newest x f zero = x
with_newest x f (suc m) = f m

-- and was then changed
moves_on : (c : Column) (es : List Event) (days : ℕ → Option ℤ) (size : ℕ) (f g : ℕ → ℤ) (x : ℤ)
    → g 0 ≡ after_all x (acting c (days 0) es) → ((m : ℕ) → g (suc m) ≡ after_all (f m) (acting c (days (suc m)) es))
    → map g (downward size) ≡ changed_cells c es (map days (downward size)) (keep_last size (map f (downward size) ++ x ∷ []))
moves_on c es days size f g x e h =
    ap (λ k. map k (downward size)) (fun_ext each)
    ∙ sym (zip2-map (λ o y. after_all y (acting c o es)) days (with_newest x f) (downward size))
    ∙ ap (changed_cells c es (map days (downward size))) (slides size f (with_newest x f) x refl (λ m. refl))
  where
    each : (m : ℕ) → g m ≡ after_all (with_newest x f m) (acting c (days m) es)
    each zero = e
    each (suc m) = h m

-- ---- below session 0

seen_below : (w : World) (a : ℕ) (c : Column) (s : ℕ) (d : ℤ) → seen_cell w a c (negsuc s) d ≡ MISSING
unfolding seen_cell
seen_below w a c s d = ap (after_all MISSING) (no-effects c (day_of w d) (events_of w a))

pub below_first : (n : ℕ) → before (pos 0) (suc n) ≡ negsuc n
below_first n = omega (arith, ints)

pub below_none : (n : ℕ) → before (negsuc 0) n ≡ negsuc n
below_none n = omega (arith, ints)

begins : (g : Start) (c : Column) (size col : ℕ) → bar_ring g [] c size col ≡ replicate size MISSING
begins g c size col = constant _ MISSING size (λ n. ap (λ s. seen_cell (fed g []) (sid_at g.assets col) c s (negsuc 0)) (below_none (suc n)) ∙ seen_below (fed g []) (sid_at g.assets col) c (suc n) (negsuc 0))

pub none_brought : (c : Column) (bars : List DayBar) (col : ℕ) → bars ≡ [] → cell_brought c bars col ≡ MISSING
unfolding cell_brought
none_brought c bars col none = rw none refl

-- ---- the days of sessions

on_last : (g : Start) (d : FedDay) (earlier : List FedDay) → day_of (fed g (d ∷ earlier)) (pos (length earlier)) ≡ Some d.day
unfolding fed
on_last g d earlier = slice_get-append_right (days_of earlier) (d.day ∷ []) (length earlier) 0 (let l = length-days earlier in omega (arith, l))

on_earlier : (g : Start) (d : FedDay) (earlier : List FedDay) (s : ℤ) → s <ℤ pos (length earlier) → day_of (fed g (d ∷ earlier)) s ≡ day_of (fed g earlier) s
unfolding fed
on_earlier g d earlier (pos s) below = slice_get-append_left (days_of earlier) (d.day ∷ []) s (let l = length-days earlier in omega (arith, ints, l, below))
on_earlier g d earlier (negsuc s) below = refl

pub days_are_fed : DaysAreFed
days_are_fed g [] n = ap (day_of (fed g [])) (below_none n)
days_are_fed g (d ∷ earlier) zero = ap (day_of (fed g (d ∷ earlier))) (let e : before (pos (length earlier)) 0 ≡ pos (length earlier) = omega (arith, ints) in e) ∙ on_last g d earlier
days_are_fed g (d ∷ []) (suc n) = ap (day_of (fed g (d ∷ []))) (below_first n)
days_are_fed g (d ∷ e ∷ es) (suc n) =
    ap (day_of (fed g (d ∷ e ∷ es))) (let f : before (pos (suc (length es))) (suc n) ≡ before (pos (length es)) n = omega (arith, ints) in f)
    ∙ on_earlier g d (e ∷ es) (before (pos (length es)) n) (let l : before (pos (length es)) n <ℤ pos (suc (length es)) = omega (arith, ints) in l)
    ∙ days_are_fed g (e ∷ es) n

-- ---- the events of a day

known_in : (low mid high : ℤ) (e : Event) → e.day ≤ℤ mid → mid ≤ℤ high → is_between low high e ≡ is_between low mid e
known_in low mid high e h l =
    let p : int_le e.day high ≡ true = grind (arith, ints) in
    let q : int_le e.day mid ≡ true = grind (arith, ints) in
    rw (p, q) refl

new_in : (low mid high : ℤ) (e : Event) → low ≤ℤ mid → mid <ℤ e.day → e.day ≤ℤ high → is_between low high e ≡ true
new_in low mid high e l h m =
    let p : int_lt low e.day ≡ true = grind (arith, ints) in
    let q : int_le e.day high ≡ true = grind (arith, ints) in
    rw (p, q) refl

not_after : (day high : ℤ) (e : Event) → e.day ≤ℤ day → is_between day high e ≡ false
not_after day high e h = let p : int_lt day e.day ≡ false = grind (arith, ints) in grind (p, arith)

filter-every : {X : Type 0} (p : X → Bool) (xs : List X) → All (λ x. p x ≡ true) xs → filter p xs ≡ xs
filter-every p [] h = refl
filter-every p (x ∷ xs) h = rw (h 0 x (omega arith)) (ap (λ l. x ∷ l) (filter-every p xs (λ k d l. h (suc k) d (omega arith))))

pub All-events : (P : Event → Type 0) (xs : List ColumnAdjustment) (col : ℕ) → All (λ x. P x.event) xs → All P (events_at xs col)
All-events P xs col all = All-map P (λ (x : ColumnAdjustment). x.event) (filter (λ x. x.col == col) xs) (All-filter (λ (x : ColumnAdjustment). x.col == col) (λ x. P x.event) xs all)

pub events_at-append : (xs ys : List ColumnAdjustment) (col : ℕ) → events_at (xs ++ ys) col ≡ events_at xs col ++ events_at ys col
events_at-append xs ys col =
    ap (map (λ (x : ColumnAdjustment). x.event)) (filter-append (λ (x : ColumnAdjustment). x.col == col) xs ys)
    ∙ map-append (λ (x : ColumnAdjustment). x.event) (filter (λ x. x.col == col) xs) (filter (λ x. x.col == col) ys)

module _ (g : Start) (start : IsStart g) (c : Column) (col : ℕ) (inside : col < length g.assets) where
  abbrev a : ℕ
  a = sid_at g.assets col

  pub events_fed : (days : List FedDay) → AreFed g days → events_of (fed g days) a ≡ events_at (adjustments_of days) col
  unfolding fed
  events_fed days are = events_by-at g.assets (adjustments_of days) start.sids_ascend (parts_fit g start days are).adjustments_in col inside

  cell_fed : (days : List FedDay) → AreFed g days → (s : ℕ) → bar_cell (fed g days) a c (pos s) ≡ cell_at (bars_of days) col c s
  unfolding fed
  cell_fed days are s =
      sym (cells_raw (days_of days) g.assets g.labels g.texts (bars_of days) (adjustments_of days) g.numbers start.sids_ascend (parts_fit g start days are).bars_in col c s inside)

  module _ (now next : FedDay) (earlier : List FedDay) (are : AreFed g (next ∷ now ∷ earlier)) where
    abbrev w : World
    w = fed g (now ∷ earlier)

    abbrev v : World
    v = fed g (next ∷ now ∷ earlier)

    abbrev n : ℕ
    n = length earlier

    abbrev fresh : List Event
    fresh = events_at next.events col

    abbrev known : List Event
    known = events_at (adjustments_of (now ∷ earlier)) col

    known_by : All (λ (e : Event). e.day ≤ℤ now.day) known
    known_by = All-events (λ e. e.day ≤ℤ now.day) (adjustments_of (now ∷ earlier)) col (λ k d l. up_to _ ((all_before g (now ∷ earlier) are.0 (now.day +ℤ pos 1) next_day).1 k d l))
      where
        up_to : (x : ℤ) → x <ℤ (now.day +ℤ pos 1) → x ≤ℤ now.day
        up_to x h = omega (arith, ints)

        next_day : now.day <ℤ (now.day +ℤ pos 1)
        next_day = omega (arith, ints)

    later : now.day ≤ℤ next.day
    later = let l : now.day <ℤ next.day = are.1 in omega (arith, ints)

    -- what acts on the bar of a day by the new day
    events_now : (low : ℤ) → low ≤ℤ now.day → effects_in c low low next.day (events_of v a) ≡ effects_in c low low now.day (events_of w a) ++ acting c (Some low) fresh
    events_now low l =
        ap (filter_map (effect c low))
        (ap (filter (is_between low next.day)) (events_fed (next ∷ now ∷ earlier) are ∙ events_at-append (adjustments_of (now ∷ earlier)) next.events col)
        ∙ filter-append (is_between low next.day) known fresh
        ∙ ap (λ l. l ++ filter (is_between low next.day) fresh)
        (filter-same (is_between low next.day) (is_between low now.day) known (λ k d i. known_in low now.day next.day (get_or known k d) (known_by k d i) later)
        ∙ ap (filter (is_between low now.day)) (sym (events_fed (now ∷ earlier) are.0)))
        ∙ ap (λ l. filter (is_between low now.day) (events_of w a) ++ l)
        (filter-every (is_between low next.day) fresh
        (λ k d i. new_in low now.day next.day (get_or fresh k d) l
        (All-events (λ e. now.day <ℤ e.day) next.events col are.2.new k d i) (All-events (λ e. e.day ≤ℤ next.day) next.events col are.2.due k d i))))
        ∙ filter_map-append (effect c low) (filter (is_between low now.day) (events_of w a)) fresh

    abbrev same : Agree w v (pos n) now.day
    same = agrees g now next earlier start are

    next_is : day_of v (pos (suc n)) ≡ Some next.day
    unfolding fed
    next_is = slice_get-append_right (days_of (now ∷ earlier)) (next.day ∷ []) (suc n) 0 (let l = length-days (now ∷ earlier) in omega (arith, l))

    -- an older cell is changed by the new events
    older : (s : ℕ) (low : ℤ) → s < n → day_of w (pos s) ≡ Some low → low ≤ℤ now.day
        → seen_cell v a c (pos s) (pos (suc n)) ≡ after_all (seen_cell w a c (pos s) (pos n)) (acting c (Some low) fresh)
    unfolding seen_cell
    older s low below is l =
        let bars : bar_cell w a c (pos s) ≡ bar_cell v a c (pos s) = same.bars a c (pos s) (omega (arith, ints, below)) in
        let days : day_of w (pos s) ≡ day_of v (pos s) = same.days (pos s) (omega (arith, ints, below)) in
        rw (← bars, ← days, is, next_is, same.is_day, events_now low l)
        (fold-append changed (bar_cell w a c (pos s)) (effects_in c low low now.day (events_of w a)) (acting c (Some low) fresh))

    -- the new cell is changed by them too
    newest : seen_cell v a c (pos n) (pos (suc n)) ≡ after_all (bar_cell v a c (pos n)) (acting c (Some now.day) fresh)
    unfolding seen_cell
    newest =
        let days : day_of w (pos n) ≡ day_of v (pos n) = same.days (pos n) (omega (arith, ints)) in
        let none : effects_in c now.day now.day now.day (events_of w a) ≡ [] = ap (effects_in c now.day now.day now.day) (events_fed (now ∷ earlier) are.0) ∙ nothing known known_by in
        rw (← days, next_is, same.is_day, events_now now.day (omega (arith, ints)), none) refl
      where
        nothing : (es : List Event) → All (λ (e : Event). e.day ≤ℤ now.day) es → effects_in c now.day now.day now.day es ≡ []
        nothing [] h = refl
        nothing (e ∷ es) h = rw (not_after now.day now.day e (h 0 e (omega arith))) (nothing es (λ k d l. h (suc k) d (omega arith)))

    -- the new cell is the one that was handed in
    cell_is : bar_cell v a c (pos n) ≡ cell_brought c next.bars col
    unfolding cell_at cell_brought
    cell_is =
        cell_fed (next ∷ now ∷ earlier) are n
        ∙ ap (λ o. unwrap_or (option_map (cell_of c) o) MISSING)
        (find-append (is_at col n) (bars_of (now ∷ earlier)) (map (bar_row n) next.bars)
        ∙ ap (λ o. option_or o (find (is_at col n) (map (bar_row n) next.bars)))
        (find-nothing (is_at col n) (bars_of (now ∷ earlier)) (λ k d l. other ((get_or (bars_of (now ∷ earlier)) k d).col == col) _ (sessions_below g now earlier are.0.0 k d l))))
        ∙ ap (λ o. unwrap_or (option_map (cell_of c) o) MISSING) (in_rows next.bars)
        ∙ at_last (find (λ (b : DayBar). b.col == col) next.bars)
      where
        other : (b : Bool) (s : ℕ) → s < n → (b && s == n) ≡ false
        other true s below = ne_eqb s n (λ e. omega arith)
        other false s below = refl

        in_rows : (bars : List DayBar) → find (is_at col n) (map (bar_row n) bars) ≡ option_map (bar_row n) (find (λ (b : DayBar). b.col == col) bars)
        in_rows [] = refl
        in_rows (b ∷ bars) = here (b.col == col) (in_rows bars)
          where
            here : (t : Bool) → find (is_at col n) (map (bar_row n) bars) ≡ option_map (bar_row n) (find (λ (b : DayBar). b.col == col) bars)
                → cond (t && n == n) (Some (bar_row n b)) (find (is_at col n) (map (bar_row n) bars)) ≡ option_map (bar_row n) (cond t (Some b) (find (λ (b : DayBar). b.col == col) bars))
            here true e = rw (eq-eqb n n refl) refl
            here false e = e

        at_last : (o : Option DayBar) → unwrap_or (option_map (cell_of c) (option_map (bar_row n) o)) MISSING ≡ unwrap_or (option_map (λ b. cell_of c (bar_row 0 b)) o) MISSING
        at_last None = refl
        at_last (Some b) = refl

    is_day : (s : ℕ) → s < length (days_of (now ∷ earlier)) → day_of w (pos s) ≡ Some (get_or (days_of (now ∷ earlier)) s (pos 0))
    unfolding fed
    is_day s h = slice_get-get_or (days_of (now ∷ earlier)) s (pos 0) h

    on_day : (o : Option ℤ) (s : ℕ) → s < n → day_of w (pos s) ≡ o → seen_cell v a c (pos s) (pos (suc n)) ≡ after_all (seen_cell w a c (pos s) (pos n)) (acting c o fresh)
    on_day o s below is =
        let days = days_of (now ∷ earlier) in
        let long : length (days_of (now ∷ earlier)) ≡ suc n = length-days (now ∷ earlier) in
        let within : s < length (days_of (now ∷ earlier)) = omega (arith, long, below) in
        let low = get_or days s (pos 0) in
        older s low below (is_day s within) (up_to _ ((all_before g (now ∷ earlier) are.0 (now.day +ℤ pos 1) next_day).0 s (pos 0) within))
        ∙ ap (λ o. after_all (seen_cell w a c (pos s) (pos n)) (acting c o fresh)) (sym (is_day s within) ∙ is)
      where
        up_to : (x : ℤ) → x <ℤ (now.day +ℤ pos 1) → x ≤ℤ now.day
        up_to x h = omega (arith, ints)

        next_day : now.day <ℤ (now.day +ℤ pos 1)
        next_day = omega (arith, ints)

    any_older : (s : ℤ) (o : Option ℤ) → s <ℤ pos n → day_of w s ≡ o → seen_cell v a c s (pos (suc n)) ≡ after_all (seen_cell w a c s (pos n)) (acting c o fresh)
    any_older (pos s) o below is = on_day o s (omega (arith, ints, below)) is
    any_older (negsuc s) o below is =
        seen_below v a c s (pos (suc n)) ∙ sym (seen_below w a c s (pos n)) ∙ ap (λ o. after_all (seen_cell w a c (negsuc s) (pos n)) (acting c o fresh)) is

    moved_on : (size : ℕ) → bar_ring g (next ∷ now ∷ earlier) c size col
        ≡ changed_cells c fresh (day_window (now ∷ earlier) size) (keep_last size (bar_ring g (now ∷ earlier) c size col ++ cell_brought c next.bars col ∷ []))
    moved_on size =
        moves_on c fresh (day_back (now ∷ earlier)) size (λ m. seen_cell w a c (before (pos n) (suc m)) (pos n)) (λ m. seen_cell v a c (before (pos (suc n)) (suc m)) (pos (suc n))) (cell_brought c next.bars col)
        (ap (λ s. seen_cell v a c s (pos (suc n))) before_it ∙ newest ∙ ap (λ x. after_all x (acting c (Some now.day) fresh)) cell_is)
        (λ m. ap (λ s. seen_cell v a c s (pos (suc n))) (further m) ∙ any_older (before (pos n) (suc m)) (day_back (now ∷ earlier) (suc m)) (earlier_than m) (days_are_fed g (now ∷ earlier) (suc m)))
      where
        before_it : before (pos (suc n)) 1 ≡ pos n
        before_it = omega (arith, ints)

        further : (m : ℕ) → before (pos (suc n)) (suc (suc m)) ≡ before (pos n) (suc m)
        further m = omega (arith, ints)

        earlier_than : (m : ℕ) → before (pos n) (suc m) <ℤ pos n
        earlier_than m = omega (arith, ints)

  first_day : (next : FedDay) → AreFed g (next ∷ []) → (size : ℕ) → bar_ring g (next ∷ []) c size col
      ≡ changed_cells c (events_at next.events col) (day_window [] size) (keep_last size (bar_ring g [] c size col ++ cell_brought c next.bars col ∷ []))
  first_day next are size =
      moves_on c (events_at next.events col) (day_back []) size (λ m. seen_cell (fed g []) a c (before (negsuc 0) (suc m)) (negsuc 0)) (λ m. seen_cell (fed g (next ∷ [])) a c (before (pos 0) (suc m)) (pos 0)) (cell_brought c next.bars col)
      (gone 0 ∙ sym (none_brought c next.bars col (are.2.first_has_no_bars refl)))
      (λ m. gone (suc m) ∙ sym (ap (λ s. seen_cell (fed g []) a c s (negsuc 0)) (below_none (suc m)) ∙ seen_below (fed g []) a c (suc m) (negsuc 0)))
    where
      gone : (m : ℕ) → seen_cell (fed g (next ∷ [])) a c (before (pos 0) (suc m)) (pos 0) ≡ MISSING
      gone m = ap (λ s. seen_cell (fed g (next ∷ [])) a c s (pos 0)) (below_first m) ∙ seen_below (fed g (next ∷ [])) a c m (pos 0)

pub bars_move : (g : Start) (next : FedDay) (days : List FedDay) → IsStart g → AreFed g (next ∷ days) → (c : Column) (size col : ℕ) → col < length g.assets
    → bar_ring g (next ∷ days) c size col
    ≡ changed_cells c (events_at next.events col) (day_window days size) (keep_last size (bar_ring g days c size col ++ cell_brought c next.bars col ∷ []))
bars_move g next [] start are c size col inside = first_day g start c col inside next are size
bars_move g next (now ∷ earlier) start are c size col inside = moved_on g start c col inside now next earlier are size

pub bar_rings_move : BarRingsMove
bar_rings_move = record {
  begins = begins;
  moves = bars_move;
  windows = λ w c small size a d h. ends (λ n. seen_cell w a c (before d (suc n)) d) small size h;
}
