-- One day on the rings of a column.
use Rattle.std.proofs.Common.{◌≡◌, ℕ, zero, suc, ◌+◌, ◌-◌, ◌<◌, ◌≤◌, subst, Bool, true, false, nat_lt, if◌then◌else◌, ℤ, pos, List, [], ◌∷◌, ◌++◌, length, map, take, drop, get_or, Some, None, refl, sym, ◌∙◌, ap, arith, length-append, All, inl, inr}
use Rattle.std.proofs.Math.Seq.{take-append_seam}
use Rattle.std.proofs.lemmas.Bool.{cases_lt}
use Rattle.std.proofs.lemmas.Bool.Decides.{nat_tests}
use Rattle.std.proofs.lemmas.List.{get_or-drop, get_or_append_left, get_or_push, length-drop}
use Rattle.std.proofs.lemmas.List.Elements.{All-from_get_or}
use Rattle.circular_buffer.specs.Buffer.{buffer, keep_last}
use Rattle.pl_spec.specs.declared.Column.{Column}
use Rattle.pl_spec.specs.Rounding.{IsCell}
use Rattle.pl_daily.specs.declared.day.DayBar.{DayBar}
use Rattle.pl_daily.specs.declared.day.DayEvent.{DayEvent}
use Rattle.pl_daily.specs.declared.rings.Rings.{Rings}
use Rattle.pl_daily.specs.Days.{Start, FedDay, IsStart, AreFed, cell_brought, day_back, day_window}
use Rattle.pl_daily.specs.Rings.{bar_ring, changed_cells, known_days}
use Rattle.pl_daily.specs.declared.columns.BarRings.{BarRings}
use Rattle.pl_daily.specs.Columns.{AreBarRings, MayAdvance, rings_of}
use Rattle.pl_daily.specs.Changes.{Ring, AreRings, IsRing, ring_at, pushed, changed, column_event, HoldBars, Brings, FollowBars, IsHandedIn}
use Rattle.pl_daily.proofs.Moves.{bars_move, slides, ends}
use Rattle.pl_daily.proofs.Cells.{length-known}
use Rattle.pl_adjust.specs.Columns.{events_at}

-- the cells of a ring after which one more was put
pushed_at : (xs : List ℤ) (n : ℕ) (x : ℤ) (j : ℕ) → length xs ≡ n → j < n → get_or (keep_last n (xs ++ x ∷ [])) j (pos 0) ≡ get_or (xs ++ x ∷ []) (1 + j) (pos 0)
pushed_at xs n x j long h =
    let all : length (xs ++ x ∷ []) ≡ length xs + 1 = length-append xs (x ∷ []) in
    let one : length (xs ++ x ∷ []) - n ≡ 1 = omega (arith, all, long) in
    ap (λ k. get_or (drop k (xs ++ x ∷ [])) j (pos 0)) one ∙ get_or-drop 1 (xs ++ x ∷ []) j (pos 0)

pub newest-pushed : (xs : List ℤ) (n : ℕ) (x : ℤ) → length xs ≡ n → 0 < n → get_or (keep_last n (xs ++ x ∷ [])) (n - 1) (pos 0) ≡ x
newest-pushed xs n x long some =
    let last : 1 + (n - 1) ≡ length xs = omega (arith, long, some) in
    pushed_at xs n x (n - 1) long (omega (arith, some)) ∙ ap (λ k. get_or (xs ++ x ∷ []) k (pos 0)) last ∙ get_or_push xs x (pos 0) (length xs) refl

pub length-pushed : (xs : List ℤ) (n : ℕ) (x : ℤ) → length xs ≡ n → length (keep_last n (xs ++ x ∷ [])) ≡ n
length-pushed xs n x long =
    let all : length (xs ++ x ∷ []) ≡ length xs + 1 = length-append xs (x ∷ []) in
    length-drop (length (xs ++ x ∷ []) - n) (xs ++ x ∷ []) ∙ omega (arith, all, long)

-- a ring after which one more cell was put
pub ring_pushed : (capacity : ℕ) (b : Ring) (x : ℤ) → IsRing capacity b → IsCell x → IsRing capacity (pushed x b)
ring_pushed capacity b x ring cell = record {
  room = ring.room;
  full = ap (λ n. length (keep_last n (b.items ++ x ∷ []))) ring.room ∙ length-pushed b.items capacity x ring.full;
  cells = ap_cells;
}
  where
    at : (j : ℕ) → j < capacity → get_or (keep_last b.capacity (b.items ++ x ∷ [])) j (pos 0) ≡ get_or (b.items ++ x ∷ []) (1 + j) (pos 0)
    at j h = ap (λ n. get_or (keep_last n (b.items ++ x ∷ [])) j (pos 0)) ring.room ∙ pushed_at b.items capacity x j ring.full h

    cell_at : (j : ℕ) → j < capacity → IsCell (get_or (b.items ++ x ∷ []) (1 + j) (pos 0))
    cell_at j h = elim (cases_lt (1 + j) (length b.items)) [
      | inl inside ↦ subst IsCell (sym (get_or_append_left b.items (x ∷ []) (pos 0) (1 + j) inside)) (ring.cells (1 + j) (pos 0) inside)
      | inr last ↦ subst IsCell (sym (get_or_push b.items x (pos 0) (1 + j) (omega (arith, h, last, ring.full)))) cell
    ]

    ap_cells : All IsCell (keep_last b.capacity (b.items ++ x ∷ []))
    ap_cells = All-from_get_or IsCell (keep_last b.capacity (b.items ++ x ∷ [])) (pos 0)
        (λ j h. let long = ap (λ n. length (keep_last n (b.items ++ x ∷ []))) ring.room ∙ length-pushed b.items capacity x ring.full in
        let inside : j < capacity = omega (arith, h, long) in subst IsCell (sym (at j inside)) (cell_at j inside))

-- the new rings stand for the list with the day
pub bars_follow : (bars : List DayBar) (events : List DayEvent) (count : ℕ) (calendar : List ℤ) (c : Column) (capacity : ℕ) (old middle new : List Ring) (row : List ℤ)
    → length middle ≡ length old → length new ≡ length old
    → ((i : ℕ) → i < length old → get_or row i (pos 0) ≡ cell_brought c bars i)
    → ((i : ℕ) → i < length old → ring_at middle i ≡ pushed (get_or row i (pos 0)) (ring_at old i))
    → ((i : ℕ) → i < length old → ring_at new i ≡ changed c (events_at (map column_event events) i) (known_days count calendar) (ring_at middle i))
    → FollowBars bars events count calendar c capacity old new
bars_follow bars events count calendar c capacity old middle new row same_middle same_new rows pushes changes g next days start are known brings hold = record {
  count = same_new ∙ hold.count;
  each = λ i h.
      let inside : i < length old = omega (arith, h, hold.count) in
      let cell : get_or row i (pos 0) ≡ cell_brought c next.bars i = rows i inside ∙ ap (λ l. cell_brought c l i) (sym brings.bars) in
      let moved = bars_move g next days start are c capacity i h in
      changes i inside
      ∙ ap (changed c (events_at (map column_event events) i) (known_days count calendar)) (pushes i inside)
      ∙ ap (λ b. changed c (events_at (map column_event events) i) (known_days count calendar) (pushed (get_or row i (pos 0)) b)) (hold.each i h)
      ∙ ap (λ x. buffer (changed_cells c (events_at (map column_event events) i) (known_days count calendar) (keep_last capacity (bar_ring g days c capacity i ++ x ∷ []))) capacity) cell
      ∙ ap (λ es. buffer (changed_cells c (events_at es i) (known_days count calendar) (keep_last capacity (bar_ring g days c capacity i ++ cell_brought c next.bars i ∷ []))) capacity) (sym brings.events)
      ∙ ap (λ l. buffer (changed_cells c (events_at next.events i) l (keep_last capacity (bar_ring g days c capacity i ++ cell_brought c next.bars i ∷ []))) capacity) known
      ∙ ap (λ l. buffer l capacity) (sym moved);
}

-- rings with a row after them
pub rings_pushed : (capacity : ℕ) (old new : List Ring) (row : List ℤ) {size : ℕ} → length new ≡ length old → AreRings size capacity old → length row ≡ size → All IsCell row
    → ((i : ℕ) → i < length old → ring_at new i ≡ pushed (get_or row i (pos 0)) (ring_at old i)) → AreRings size capacity new
rings_pushed capacity old new row {size} count are long cells pushes = record {
  count = count ∙ are.count;
  each = λ i h.
      subst (IsRing capacity) (sym (pushes i (omega (arith, h, are.count))))
      (ring_pushed capacity (ring_at old i) (get_or row i (pos 0)) (are.each i h) (cells i (pos 0) (omega (arith, h, long))));
}

-- what a vector holds after its slice was changed
pub vec_back : {X : Type 0} (n : ℕ) (new rest : List X) → n ≡ length new → take n (new ++ rest) ≡ new
vec_back n new rest e = ap (λ m. take m (new ++ rest)) e ∙ take-append_seam new rest

-- ---- the calendar

known_drop : (n k : ℕ) (xs : List ℤ) → known_days n (drop k xs) ≡ drop k (known_days n xs)
known_drop n zero xs = refl
known_drop n (suc k) [] = refl
known_drop n (suc k) (x ∷ xs) = known_drop n k xs

one_more : (m n : ℕ) (b : Bool) → nat_lt m n ≡ b → nat_lt (suc m) (suc n) ≡ nat_lt m n
one_more m n true h = let t : nat_lt (suc m) (suc n) ≡ true = grind (arith, nat_tests) in t ∙ sym h
one_more m n false h = let t : nat_lt (suc m) (suc n) ≡ false = grind (arith, nat_tests) in t ∙ sym h

known_push : (n : ℕ) (xs : List ℤ) (x : ℤ) → known_days (suc n) (xs ++ x ∷ []) ≡ known_days n xs ++ Some x ∷ []
known_push n [] x = let t : nat_lt 0 (suc n) ≡ true = grind (arith, nat_tests) in rw t refl
known_push n (y ∷ ys) x =
    let long : length (ys ++ x ∷ []) ≡ length ys + 1 = length-append ys (x ∷ []) in
    let one : length (ys ++ x ∷ []) ≡ suc (length ys) = omega (arith, long) in
    rw (one, one_more (length ys) n (nat_lt (length ys) n) refl) (ap (λ l. (if nat_lt (length ys) n then Some y else None) ∷ l) (known_push n ys x))

-- the days of the sessions of a smaller ring
pub known_last : (n : ℕ) (days : List FedDay) (calendar : List ℤ) (small size : ℕ) → length calendar ≡ size → small ≤ size → known_days n calendar ≡ day_window days size
    → known_days n (drop (length calendar - small) calendar) ≡ day_window days small
known_last n days calendar small size long fits known =
    known_drop n (length calendar - small) calendar
    ∙ ap (λ l. drop (l - small) (known_days n calendar)) (sym (length-known n calendar))
    ∙ ap (keep_last small) known
    ∙ ends (day_back days) small size fits

-- with one day more
pub known_more : (days : List FedDay) (next : FedDay) (calendar : List ℤ) (size : ℕ) (day : ℤ) → next.day ≡ day → known_days (length days) calendar ≡ day_window days size
    → known_days (suc (length days)) (keep_last size (calendar ++ day ∷ [])) ≡ day_window (next ∷ days) size
known_more days next calendar size day same known =
    known_drop (suc (length days)) (length (calendar ++ day ∷ []) - size) (calendar ++ day ∷ [])
    ∙ ap (λ l. drop (l - size) (known_days (suc (length days)) (calendar ++ day ∷ []))) (sym (length-known (suc (length days)) (calendar ++ day ∷ [])))
    ∙ ap (keep_last size) (known_push (length days) calendar day ∙ ap (λ l. l ++ Some day ∷ []) known ∙ ap (λ x. day_window days size ++ Some x ∷ []) (sym same))
    ∙ sym (slides size (day_back days) (day_back (next ∷ days)) (Some next.day) refl (λ m. refl))

-- ---- a column among the others

-- what a day made of the rings of a column
pub record IsAdvanced (assets fed : ℕ) (calendar : List ℤ) (bars : List DayBar) (events : List DayEvent) (c : Column) (old new : Rings) : Type 0 where
  pub capacity : new.capacity ≡ old.capacity
  pub follow : FollowBars bars events fed (drop (length calendar - old.capacity) calendar) c old.capacity old.rings.items new.rings.items
  pub rings : AreRings assets new.capacity new.rings.items

pub column_follows : (bars : List DayBar) (events : List DayEvent) (assets fed size : ℕ) (lent calendar : List ℤ) (c : Column) (old made : Rings)
    → IsAdvanced assets fed lent bars events c old made → lent ≡ calendar → length calendar ≡ size → old.capacity ≤ size
    → (g : Start) (next : FedDay) (days : List FedDay) → IsStart g → AreFed g (next ∷ days) → length days ≡ fed → Brings bars events next → known_days (length days) calendar ≡ day_window days size
    → HoldBars g days c old.capacity old.rings.items → HoldBars g (next ∷ days) c made.capacity made.rings.items
column_follows bars events assets fed size lent calendar c old made is same long fits g next days start are count brings known hold =
    subst (λ n. HoldBars g (next ∷ days) c n made.rings.items) (sym is.capacity)
    (is.follow g next days start are
    (ap (λ l. known_days fed (drop (length l - old.capacity) l)) same
    ∙ ap (λ n. known_days n (drop (length calendar - old.capacity) calendar)) (sym count)
    ∙ known_last (length days) days calendar old.capacity size long fits known)
    brings hold)

pub column_are : (size other : ℕ) (r : Rings) → size ≡ other → AreRings size r.capacity r.rings.items → AreRings other r.capacity r.rings.items
column_are size other r e are = subst (λ n. AreRings n r.capacity r.rings.items) e are

pub may_advance : (b : BarRings) (c : Column) (assets size fed : ℕ) (bars : List DayBar) (events : List DayEvent) → AreBarRings (length b.row.items) b → IsHandedIn (length b.row.items) fed bars events
    → size ≡ length b.calendar.items → assets ≡ length b.row.items → MayAdvance assets size fed bars events (rings_of b c)
may_advance b c assets size fed bars events are day long rows =
    subst (λ n. MayAdvance n size fed bars events (rings_of b c)) (sym rows)
    (record { rings = are.rings c; fits = omega (arith, are.fits c, are.calendar, long); handed_in = day })
