-- Lists of cells and of rings, by place.
use Rattle.std.proofs.Common.{◌≡◌, ℕ, zero, suc, ◌+◌, ◌-◌, ◌*◌, ◌<◌, ◌≤◌, ◌==◌, Bool, true, false, cond, if◌then◌else◌, nat_lt, min, ℤ, pos, List, [], ◌∷◌, ◌++◌, length, map, find, take, get_or, slice_set, inl, inr, Option, Some, None, option_map, option_to_list, unwrap_or, refl, sym, ◌∙◌, ap, arith, length-append, AllPairs}
use Rattle.std.specs.Option.{option_or}
use Rattle.std.proofs.Math.Nat.{add-mul}
use Rattle.std.proofs.lemmas.Bool.{cases_eq, eq-eqb, eqb-true, ne_eqb}
use Rattle.std.proofs.lemmas.Bool.Decides.{nat_tests}
use Rattle.std.proofs.lemmas.List.{ext_get_or, map-append, append-nil, take_more, get_or-take, length-take-le, get_or-set_same, get_or-set_other, length-set, get_or_default}
use Rattle.std.proofs.lemmas.List.Elements.{filter-append, filter_map-append}
use Rattle.std.proofs.lemmas.List.Folds.{find-append}
use Rattle.std.proofs.lemmas.List.Sums.{fold-append}
use Rattle.std.proofs.lemmas.Simd.{get_or-zip2, length-zip2}
use Rattle.circular_buffer.specs.Buffer.{buffer}
use Rattle.pl_spec.specs.declared.AdjustmentKind.{AdjustmentKind}
use Rattle.pl_spec.specs.declared.Column.{Column}
use Rattle.pl_spec.specs.Rounding.{MISSING, Fraction}
use Rattle.pl_spec.specs.Window.{Effect, after_all, changed as change, effect, change_effect, factor, step_count}
use Rattle.pl_spec.specs.World.{Event, Change}
use Rattle.pl_spec.specs.World.Change.{Scale, Overwrite}
use Rattle.pl_bars.specs.Bars.{cell_of}
use Rattle.pl_bars.proofs.BarSearch.{find-nothing}
use Rattle.pl_adjust.specs.Events.{event_of}
use Rattle.pl_adjust.specs.Columns.{events_at}
use Rattle.pl_daily.specs.declared.day.DayBar.{DayBar}
use Rattle.pl_daily.specs.declared.day.DayEvent.{DayEvent}
use Rattle.pl_daily.specs.Days.{bar_row, cell_brought}
use Rattle.pl_daily.specs.Rings.{acting, changed_cells, known_days, scales, scaling}
use Rattle.pl_daily.specs.Changes.{Ring, AreRings, IsRing, ring_at, changed, column_event}
use Rattle.pl_daily.proofs.Fed.{or-none}
use Rattle.pl_daily.proofs.Moves.{events_at-append}

pub set_at : {X : Type 0} (xs : List X) (i j : ℕ) (x d : X) → i < length xs → get_or (slice_set xs i x) j d ≡ (if i == j then x else get_or xs j d)
set_at xs i j x d h = elim (cases_eq i j) [
  | inl same ↦ let t : (i == j) ≡ true = eq-eqb i j same in rw (t, ← same) (get_or-set_same xs i x d h)
  | inr other ↦ let t : (i == j) ≡ false = ne_eqb i j other in rw t (get_or-set_other xs i j x d (λ e. other (sym e)))
]

-- ---- cells and events

pub length-known : (n : ℕ) (days : List ℤ) → length (known_days n days) ≡ length days
length-known n [] = refl
length-known n (x ∷ xs) = ap suc (length-known n xs)

pub length-changed : (c : Column) (es : List Event) (os : List (Option ℤ)) (xs : List ℤ) → length os ≡ length xs → length (changed_cells c es os xs) ≡ length xs
length-changed c es os xs h = length-zip2 (λ o x. after_all x (acting c o es)) os xs h ∙ h

-- a day that was fed, and one that was not
pub known_late : (n : ℕ) (days : List ℤ) (k : ℕ) (d : ℤ) → k < length days → length days ≤ k + n → get_or (known_days n days) k None ≡ Some (get_or days k d)
known_late n [] k d h l = absurd (omega (arith, h))
known_late n (x ∷ xs) zero d h l = let t : nat_lt (length xs) n ≡ true = grind (arith, nat_tests) in rw t refl
known_late n (x ∷ xs) (suc k) d h l = known_late n xs k d (omega (arith, h)) (omega (arith, l))

pub known_early : (n : ℕ) (days : List ℤ) (k : ℕ) → k + n < length days → get_or (known_days n days) k None ≡ None
known_early n [] k h = refl
known_early n (x ∷ xs) zero h = let t : nat_lt (length xs) n ≡ false = grind (arith, nat_tests) in rw t refl
known_early n (x ∷ xs) (suc k) h = known_early n xs k (omega (arith, h))

pub changed_at : (c : Column) (es : List Event) (os : List (Option ℤ)) (xs : List ℤ) (k : ℕ) → length os ≡ length xs → k < length xs
    → get_or (changed_cells c es os xs) k (pos 0) ≡ after_all (get_or xs k (pos 0)) (acting c (get_or os k None) es)
changed_at c es os xs k same h = get_or-zip2 (λ o x. after_all x (acting c o es)) os xs k None (pos 0) (pos 0) (omega (arith, same, h)) h

-- one event's effects on the bar of a day
pub acting_one : (c : Column) (bar : ℤ) (e : Event) → acting c (Some bar) (e ∷ []) ≡ option_to_list (effect c bar e)
acting_one c bar e = here (effect c bar e) refl
  where
    here : (o : Option Effect) → effect c bar e ≡ o → acting c (Some bar) (e ∷ []) ≡ option_to_list o
    here None t = rw t refl
    here (Some f) t = rw t refl

-- a ratio with a factor is one step, whatever the bar
pub steps_one : (c : Column) (bar : ℤ) (e : DayEvent) → step_count (option_to_list (effect c bar (event_of e.adjust))) ≡ length (scaling c (e ∷ []))
steps_one c bar e = by_change (event_of e.adjust).change refl
  where
    kind : AdjustmentKind
    kind = e.adjust.kind

    by_factor : (o : Option Fraction) (ratio : Fraction) → factor c kind ratio ≡ o → (event_of e.adjust).change ≡ Scale ratio
        → step_count (option_to_list (change_effect c bar kind (Scale ratio))) ≡ length (scaling c (e ∷ []))
    by_factor None ratio t is = rw (is, t) refl
    by_factor (Some f) ratio t is = rw (is, t) refl

    by_test : (b : Bool) (v : ℤ) → step_count (option_to_list (if b then Some (Effect.Put v) else None)) ≡ 0
    by_test true v = refl
    by_test false v = refl

    by_change : (x : Change) → (event_of e.adjust).change ≡ x → step_count (option_to_list (change_effect c bar kind x)) ≡ length (scaling c (e ∷ []))
    by_change (Scale ratio) is = by_factor (factor c kind ratio) ratio refl is
    by_change (Overwrite d k v) is = by_test _ v ∙ rw is refl

-- the first i cells are those of a list, and the others as before
pub record IsBegun (to : List ℤ) (i : ℕ) (old now : List ℤ) : Type 0 where
  pub count : length now ≡ length old
  pub front : (k : ℕ) → k < i → get_or now k (pos 0) ≡ get_or to k (pos 0)
  pub rest : (k : ℕ) → i ≤ k → get_or now k (pos 0) ≡ get_or old k (pos 0)

pub begun_more : (to : List ℤ) (i : ℕ) (old now : List ℤ) (x : ℤ) → IsBegun to i old now → i < length old → x ≡ get_or to i (pos 0) → IsBegun to (i + 1) old (slice_set now i x)
begun_more to i old now x begun inside is = record {
  count = length-set now i x ∙ begun.count;
  front = λ k h. set_at now i k x (pos 0) (omega (arith, inside, begun.count)) ∙ in_front k h (i == k) refl;
  rest = λ k h. set_at now i k x (pos 0) (omega (arith, inside, begun.count)) ∙ behind k h;
}
  where
    below : (k : ℕ) → k < i + 1 → (i == k) ≡ false → k < i
    below k h t = grind (arith, nat_tests)

    in_front : (k : ℕ) → k < i + 1 → (t : Bool) → (i == k) ≡ t → (if i == k then x else get_or now k (pos 0)) ≡ get_or to k (pos 0)
    in_front k h true t =
        let same : i ≡ k = eqb-true i k t in
        rw t (is ∙ ap (λ n. get_or to n (pos 0)) same)
    in_front k h false t = rw t (begun.front k (below k h t))

    behind : (k : ℕ) → i + 1 ≤ k → (if i == k then x else get_or now k (pos 0)) ≡ get_or old k (pos 0)
    behind k h = let t : (i == k) ≡ false = ne_eqb i k (λ e. omega arith) in rw t (begun.rest k (omega arith))

-- the cells of sessions that were not fed are left
pub begins : (c : Column) (es : List Event) (fed : ℕ) (days old : List ℤ) (from : ℕ) → length days ≡ length old → from + min fed (length old) ≡ length old → IsBegun (changed_cells c es (known_days fed days) old) from old old
begins c es fed days old from same at = record {
  count = refl;
  front = λ k h.
      let early : k + fed < length days = omega (arith, h, same, at) in
      sym (changed_at c es (known_days fed days) old k (length-known fed days ∙ same) (omega (arith, h, at))
      ∙ ap (λ o. after_all (get_or old k (pos 0)) (acting c o es)) (known_early fed days k early));
  rest = λ k h. refl;
}

-- the next cell
pub next_cell : (c : Column) (e : Event) (fed : ℕ) (days old : List ℤ) (k : ℕ) → length days ≡ length old → k < length old → length old ≤ k + fed
    → after_all (get_or old k (pos 0)) (option_to_list (effect c (get_or days k (pos 0)) e)) ≡ get_or (changed_cells c (e ∷ []) (known_days fed days) old) k (pos 0)
next_cell c e fed days old k same inside late =
    sym (changed_at c (e ∷ []) (known_days fed days) old k (length-known fed days ∙ same) inside
    ∙ ap (λ o. after_all (get_or old k (pos 0)) (acting c o (e ∷ []))) (known_late fed days k (pos 0) (omega (arith, inside, same)) (omega (arith, late, same)))
    ∙ ap (after_all (get_or old k (pos 0))) (acting_one c (get_or days k (pos 0)) e))

pub all_begun : (to : List ℤ) (i : ℕ) (old now : List ℤ) → IsBegun to i old now → length to ≡ length old → i ≡ length old → now ≡ to
all_begun to i old now begun same end = ext_get_or (pos 0) now to (begun.count ∙ sym same) (λ k h. begun.front k (omega (arith, h, begun.count, end)))

-- ---- rings and events

-- no events
pub changed_nothing : (c : Column) (days : List (Option ℤ)) (b : Ring) → length days ≡ length b.items → changed c [] days b ≡ b
changed_nothing c days b same = ap (λ l. buffer l b.capacity) (unchanged days b.items same)
  where
    idle : (o : Option ℤ) (x : ℤ) → after_all x (acting c o []) ≡ x
    idle None x = refl
    idle (Some d) x = refl

    unchanged : (os : List (Option ℤ)) (xs : List ℤ) → length os ≡ length xs → changed_cells c [] os xs ≡ xs
    unchanged [] [] h = refl
    unchanged [] (x ∷ xs) h = absurd (omega (arith, h))
    unchanged (o ∷ os) [] h = absurd (omega (arith, h))
    unchanged (o ∷ os) (x ∷ xs) h = rw (idle o x) (ap (λ l. x ∷ l) (unchanged os xs (omega (arith, h))))

-- events one after the other
changed-append : (c : Column) (es fs : List Event) (days : List (Option ℤ)) (b : Ring) → changed c (es ++ fs) days b ≡ changed c fs days (changed c es days b)
changed-append c es fs days b = ap (λ l. buffer l b.capacity) (cells days b.items)
  where
    parted : (o : Option ℤ) (x : ℤ) → after_all x (acting c o (es ++ fs)) ≡ after_all (after_all x (acting c o es)) (acting c o fs)
    parted None x = refl
    parted (Some d) x = ap (after_all x) (filter_map-append (effect c d) es fs) ∙ fold-append change x (acting c (Some d) es) (acting c (Some d) fs)

    cells : (os : List (Option ℤ)) (xs : List ℤ) → changed_cells c (es ++ fs) os xs ≡ changed_cells c fs os (changed_cells c es os xs)
    cells [] xs = refl
    cells (o ∷ os) [] = refl
    cells (o ∷ os) (x ∷ xs) = ap (λ y. y ∷ changed_cells c (es ++ fs) os xs) (parted o x) ∙ ap (λ l. after_all (after_all x (acting c o es)) (acting c o fs) ∷ l) (cells os xs)

-- what one event more makes of the ring of each asset
changed_more : (c : Column) (es : List DayEvent) (days : List (Option ℤ)) (k : ℕ) (e : DayEvent) (i : ℕ) (b : Ring) → k < length es → e ≡ get_or es k e
    → changed c (events_at (map column_event (take (k + 1) es)) i) days b
    ≡ (if e.col == i then changed c (event_of e.adjust ∷ []) days (changed c (events_at (map column_event (take k es)) i) days b) else changed c (events_at (map column_event (take k es)) i) days b)
changed_more c es days k e i b inside is =
    let more : take (k + 1) es ≡ take k es ++ e ∷ [] = take_more es k e inside ∙ ap (λ x. take k es ++ x ∷ []) (sym is) in
    ap (λ l. changed c (events_at l i) days b) (ap (map column_event) more ∙ map-append column_event (take k es) (e ∷ []))
    ∙ ap (λ l. changed c l days b) (events_at-append (map column_event (take k es)) (column_event e ∷ []) i)
    ∙ here (e.col == i) refl
  where
    here : (t : Bool) → (e.col == i) ≡ t
        → changed c (events_at (map column_event (take k es)) i ++ events_at (column_event e ∷ []) i) days b
        ≡ (if t then changed c (event_of e.adjust ∷ []) days (changed c (events_at (map column_event (take k es)) i) days b) else changed c (events_at (map column_event (take k es)) i) days b)
    here true t = rw t (changed-append c (events_at (map column_event (take k es)) i) (event_of e.adjust ∷ []) days b)
    here false t = rw t (ap (λ l. changed c l days b) (append-nil (events_at (map column_event (take k es)) i)))

pub count_more : (c : Column) (es : List DayEvent) (k : ℕ) (e : DayEvent) → k < length es → e ≡ get_or es k e
    → length (scaling c (take (k + 1) es)) ≡ length (scaling c (take k es)) + length (scaling c (e ∷ []))
count_more c es k e inside is =
    ap (λ l. length (scaling c l)) (take_more es k e inside ∙ ap (λ x. take k es ++ x ∷ []) (sym is))
    ∙ ap length (filter-append (λ (x : DayEvent). scales c (event_of x.adjust)) (take k es) (e ∷ []))
    ∙ length-append (scaling c (take k es)) (scaling c (e ∷ []))

-- the rings after one event more
pub ring_set : (c : Column) (es : List DayEvent) (days : List (Option ℤ)) (k : ℕ) (e : DayEvent) (i : ℕ) (old now : List Ring) (b : Ring) → k < length es → e ≡ get_or es k e → e.col < length now
    → b ≡ changed c (event_of e.adjust ∷ []) days (ring_at now e.col)
    → ring_at now i ≡ changed c (events_at (map column_event (take k es)) i) days (ring_at old i)
    → ring_at (slice_set now e.col b) i ≡ changed c (events_at (map column_event (take (k + 1) es)) i) days (ring_at old i)
ring_set c es days k e i old now b inside is within made so_far =
    set_at now e.col i b (buffer [] 0) within
    ∙ here (e.col == i) refl
    ∙ sym (changed_more c es days k e i (ring_at old i) inside is)
  where
    here : (t : Bool) → (e.col == i) ≡ t → (if e.col == i then b else ring_at now i)
        ≡ (if e.col == i then changed c (event_of e.adjust ∷ []) days (changed c (events_at (map column_event (take k es)) i) days (ring_at old i)) else changed c (events_at (map column_event (take k es)) i) days (ring_at old i))
    here true t =
        let same : e.col ≡ i = eqb-true e.col i t in
        rw t (made ∙ ap (λ n. changed c (event_of e.adjust ∷ []) days (ring_at now n)) same ∙ ap (changed c (event_of e.adjust ∷ []) days) so_far)
    here false t = rw t so_far

pub rings_set : (assets capacity col : ℕ) (rings : List Ring) (b : Ring) → AreRings assets capacity rings → IsRing capacity b → col < assets → AreRings assets capacity (slice_set rings col b)
rings_set assets capacity col rings b are is within = record {
  count = length-set rings col b ∙ are.count;
  each = λ i h. rw (set_at rings col i b (buffer [] 0) (omega (arith, within, are.count))) (here (col == i) i h);
}
  where
    here : (t : Bool) (i : ℕ) → i < assets → IsRing capacity (if t then b else ring_at rings i)
    here true i h = is
    here false i h = are.each i h

-- ---- bars

-- what one bar more brings
pub brought_more : (c : Column) (bars : List DayBar) (k : ℕ) (b : DayBar) (i : ℕ) → AllPairs (λ a b. a.col < b.col) bars → k < length bars → b ≡ get_or bars k b
    → cell_brought c (take (k + 1) bars) i ≡ (if b.col == i then cell_of c (bar_row 0 b) else cell_brought c (take k bars) i)
unfolding cell_brought
brought_more c bars k b i up inside is =
    ap (λ o. unwrap_or (option_map (λ (b : DayBar). cell_of c (bar_row 0 b)) o) MISSING)
    (ap (find (λ (b : DayBar). b.col == i)) (take_more bars k b inside ∙ ap (λ x. take k bars ++ x ∷ []) (sym is))
    ∙ find-append (λ (b : DayBar). b.col == i) (take k bars) (b ∷ []))
    ∙ here (b.col == i) refl
  where
    below : (j : ℕ) (d : DayBar) → j < length (take k bars) → (get_or (take k bars) j d).col < b.col
    below j d h =
        let short : length (take k bars) ≡ k = length-take-le k bars (omega (arith, inside)) in
        let same : get_or (take k bars) j d ≡ get_or bars j d = get_or-take k bars j d (omega (arith, h, short)) in
        let less : (get_or bars j d).col < (get_or bars k d).col = up j k d (omega (arith, h, short)) inside in
        let at : get_or bars k d ≡ get_or bars k b = get_or_default bars k d b inside in
        let equal : (get_or bars k d).col ≡ b.col = ap (λ (x : DayBar). x.col) (at ∙ sym is) in
        rw same (omega (arith, less, equal))

    here : (t : Bool) → (b.col == i) ≡ t
        → unwrap_or (option_map (λ (b : DayBar). cell_of c (bar_row 0 b)) (option_or (find (λ (b : DayBar). b.col == i) (take k bars)) (cond (b.col == i) (Some b) None))) MISSING
        ≡ (if t then cell_of c (bar_row 0 b) else unwrap_or (option_map (λ (b : DayBar). cell_of c (bar_row 0 b)) (find (λ (b : DayBar). b.col == i) (take k bars))) MISSING)
    here true t =
        let col : b.col ≡ i = eqb-true b.col i t in
        rw (t, find-nothing (λ (b : DayBar). b.col == i) (take k bars) (λ j d h. let l : (get_or (take k bars) j d).col < b.col = below j d h in ne_eqb _ i (λ e. omega (arith, l, col, e)))) refl
    here false t = rw (t, or-none (find (λ (b : DayBar). b.col == i) (take k bars))) refl

-- the row after one bar more
pub brought_set : (c : Column) (bars : List DayBar) (k : ℕ) (blank : DayBar) (i : ℕ) (row : List ℤ) (x : ℤ) (n : ℕ) → AllPairs (λ a b. a.col < b.col) bars → k < length bars
    → length row ≡ n → (get_or bars k blank).col < n → x ≡ cell_of c (bar_row 0 (get_or bars k blank))
    → ((i : ℕ) → i < n → get_or row i (pos 0) ≡ cell_brought c (take k bars) i)
    → i < n → get_or (slice_set row (get_or bars k blank).col x) i (pos 0) ≡ cell_brought c (take (k + 1) bars) i
brought_set c bars k blank i row x n up inside long col is so_far h =
    let b = get_or bars k blank in
    set_at row b.col i x (pos 0) (omega (arith, col, long))
    ∙ ap (λ y. if b.col == i then y else get_or row i (pos 0)) is
    ∙ ap (λ y. if b.col == i then cell_of c (bar_row 0 b) else y) (so_far i h)
    ∙ sym (brought_more c bars k b i up inside (get_or_default bars k blank b inside))

pub cost_more : (s0 s1 s2 a b n m k : ℕ) → s2 ≡ s1 + b * k → s1 ≡ s0 + a * m → n ≡ a + b → k ≡ m → s2 ≡ s0 + n * m
cost_more s0 s1 s2 a b n m k first before count same =
    let parts : (a + b) * m ≡ a * m + b * m = add-mul a b m in
    let all : n * m ≡ (a + b) * m = ap (λ x. x * m) count in
    let last : b * k ≡ b * m = ap (λ x. b * x) same in
    omega (arith, first, before, parts, all, last)

pub cost_none : (s l m : ℕ) → s ≡ s + l * (m - m)
cost_none s l m = let z : m - m ≡ 0 = omega arith in rw z (omega arith)

pub cost_next : (s0 s1 s2 l i from : ℕ) → s2 ≡ s1 + l → s1 ≡ s0 + l * (i - from) → from ≤ i → s2 ≡ s0 + l * (i + 1 - from)
cost_next s0 s1 s2 l i from first before h =
    let one : i + 1 - from ≡ suc (i - from) = omega (arith, h) in
    let f : l * suc (i - from) ≡ l + l * (i - from) = omega arith in
    rw one (omega (arith, first, before, f))

pub cost_all : (s0 s l i from n m fed : ℕ) → s ≡ s0 + l * (i - from) → i ≡ n → from ≡ n - m → m ≡ min fed n → s ≡ s0 + l * min n fed
cost_all s0 s l i from n m fed before end start least =
    let e : i - from ≡ min n fed = omega (arith, end, start, least) in before ∙ ap (λ k. s0 + l * k) e
