-- Who replays the rows of an asset holds its windows.
use Rattle.std.proofs.Common.{◌≡◌, ℕ, zero, suc, ◌+◌, ◌-◌, ◌<◌, ◌≤◌, ◌==◌, Bool, true, false, not, ◌||◌, cond, if◌then◌else◌, ℤ, pos, negsuc, List, [], ◌∷◌, ◌++◌, length, map, filter, drop, get_or, All, AllPairs, Option, Some, None, slice_get, refl, sym, subst, ap, ◌∙◌, arith, length-append, length-drop}
use Rattle.std.specs.Prelude.{fold, flat_map, filter_map, option_map, unwrap_or}
use Rattle.std.specs.List.{list_any, range_with_len}
use Rattle.std.proofs.lemmas.Bool.Decides.{nat_tests}
use Rattle.std.proofs.lemmas.Int.{ints}
use Rattle.std.proofs.lemmas.List.{append-nil, drop_all, get_or-map, length-map}
use Rattle.std.proofs.lemmas.List.Elements.{filter-append}
use Rattle.std.proofs.lemmas.List.Kept.{AllPairs-filter}
use Rattle.std.proofs.lemmas.List.Sums.{fold-append}
use Rattle.std.proofs.lemmas.Grind.{flat_map-append}
use Rattle.pl_spec.specs.declared.AssetRow.{AssetRow}
use Rattle.pl_spec.specs.declared.Column.{Column}
use Rattle.pl_spec.specs.Rounding.{MISSING}
use Rattle.pl_spec.specs.Window.{after_all, bar_window, before, downward, effect, is_between, seen_cell}
use Rattle.pl_spec.specs.World.{World, IsWorld, day_of, events_of, exists, lives_on, living_sids}
use Rattle.pl_spec.proofs.Columns.{no_asset}
use Rattle.pl_spec.proofs.Lists.{filter-map}
use Rattle.pl_spec.proofs.Ranges.{range-snoc}
use Rattle.pl_spec.proofs.Windows.{length-downward, map-downward, no-effects}
use Rattle.pl_adjarray.proofs.Slides.{moved_is_seen}
use Rattle.pl_windows.specs.Windows.{WindowRow, has_between, is_changed, is_whole, rows_on, session_rows, told, window_row}
use Rattle.pl_windows.specs.Laws.{RowsReplayToWindows, held_after, replayed, rows_of}

-- ---- one row of an asset on a session

ascending-map : (xs : List AssetRow) → AllPairs (λ a b. a.sid < b.sid) xs → AllPairs (λ a b. a < b) (map (λ x. x.sid) xs)
ascending-map xs up i j d less within =
    let long : length (map (λ (x : AssetRow). x.sid) xs) ≡ length xs = length-map xs (λ x. x.sid) in
    let first : get_or (map (λ (x : AssetRow). x.sid) xs) i d ≡ (get_or xs i no_asset).sid = get_or-map (λ x. x.sid) xs i no_asset d (omega arith) in
    let second : get_or (map (λ (x : AssetRow). x.sid) xs) j d ≡ (get_or xs j no_asset).sid = get_or-map (λ x. x.sid) xs j no_asset d (omega arith) in
    rw (first, second) (up i j no_asset less (omega arith))

sids-ascend : (w : World) → IsWorld w → (d : ℤ) → AllPairs (λ a b. a < b) (living_sids w d)
sids-ascend w ok d = here (day_of w d)
  where
    here : (o : Option ℤ) → AllPairs (λ a b. a < b) (unwrap_or (option_map (λ day. map (λ (a : AssetRow). a.sid) (filter (lives_on day) w.assets)) o) [])
    here None = λ i j x less within. absurd (omega arith)
    here (Some day) = ascending-map (filter (lives_on day) w.assets) (AllPairs-filter (λ a b. a.sid < b.sid) (lives_on day) w.assets ok.sids_ascend)

none-of : (xs : List ℕ) (a : ℕ) → All (λ y. a < y) xs → filter (λ y. y == a) xs ≡ []
none-of [] a all = refl
none-of (y ∷ ys) a all =
    let lt : a < y = all 0 y (omega arith) in
    let apart : (y == a) ≡ false = grind (arith, nat_tests) in
    rw apart (none-of ys a (λ k d l. all (suc k) d (omega arith)))

-- of ascending numbers one is a, where there is such a one
one-of : (xs : List ℕ) (a : ℕ) → AllPairs (λ x y. x < y) xs → filter (λ x. x == a) xs ≡ cond (list_any (λ x. x == a) xs) (a ∷ []) []
one-of [] a up = refl
one-of (x ∷ xs) a up = here (x == a) refl (one-of xs a (λ i j d l m. up (suc i) (suc j) d (omega arith) (omega arith)))
  where
    here : (b : Bool) → (x == a) ≡ b → filter (λ y. y == a) xs ≡ cond (list_any (λ y. y == a) xs) (a ∷ []) []
        → cond b (x ∷ filter (λ y. y == a) xs) (filter (λ y. y == a) xs) ≡ cond (b || list_any (λ y. y == a) xs) (a ∷ []) []
    here true t rest =
        let same : x ≡ a = grind (arith, nat_tests) in
        let none : filter (λ y. y == a) xs ≡ [] = none-of xs a (λ k d l. subst (λ z. z < get_or xs k d) same (up 0 (suc k) d (omega arith) (omega arith))) in
        rw (same, none) refl
    here false t rest = rest

row-of : (w : World) → IsWorld w → (c : Column) (size from d a : ℕ)
    → rows_of a (session_rows w c size from d) ≡ cond (exists w a (pos d)) (window_row w c size from d a ∷ []) []
row-of w ok c size from d a =
    filter-map (λ (r : WindowRow). r.sid == a) (window_row w c size from d) (living_sids w (pos d))
    ∙ ap (map (window_row w c size from d)) (one-of (living_sids w (pos d)) a (sids-ascend w ok (pos d)))
    ∙ mapped (exists w a (pos d))
  where
    mapped : (b : Bool) → map (window_row w c size from d) (cond b (a ∷ []) []) ≡ cond b (window_row w c size from d a ∷ []) []
    mapped true = refl
    mapped false = refl

-- ---- what is held after k sessions

abbrev held : World → Column → ℕ → ℕ → ℕ → ℕ → List ℤ
held w c size from a k = held_after a (rows_on w c size from from k)

held-next : (w : World) → IsWorld w → (c : Column) (size from a k : ℕ)
    → held w c size from a (suc k) ≡ fold replayed (held w c size from a k) (cond (exists w a (pos (from + k))) (window_row w c size from (from + k) a ∷ []) [])
held-next w ok c size from a k =
    let rows = rows_on w c size from from k in
    let more = session_rows w c size from (from + k) in
    ap (λ l. held_after a (flat_map (session_rows w c size from) l)) (range-snoc from k)
    ∙ ap (held_after a) (flat_map-append (session_rows w c size from) (range_with_len from k) ((from + k) ∷ []) ∙ ap (λ l. rows ++ l) (append-nil more))
    ∙ ap (fold replayed []) (filter-append (λ (r : WindowRow). r.sid == a) rows more)
    ∙ fold-append replayed [] (rows_of a rows) (rows_of a more)
    ∙ ap (fold replayed (held w c size from a k)) (row-of w ok c size from (from + k) a)

pub window-long : (w : World) (c : Column) (size a : ℕ) (d : ℤ) → length (bar_window w c size a d) ≡ size
window-long w c size a d = length-map (downward size) (λ n. seen_cell w a c (before d (suc n)) d) ∙ length-downward size

told-few : (w : World) (size from a d : ℕ) → 1 ≤ size → told w size from a d ≤ size
told-few w size from a d some = here (is_whole w from a d)
  where
    here : (b : Bool) → (if b then size else 1) ≤ size
    here true = omega arith
    here false = some

held-few : (w : World) → IsWorld w → (c : Column) (size from a k : ℕ) → 1 ≤ size → length (held w c size from a k) ≤ size
held-few w ok c size from a zero some = omega arith
held-few w ok c size from a (suc k) some = rw (held-next w ok c size from a k) (here (exists w a (pos (from + k))) (held-few w ok c size from a k some))
  where
    cells : List ℤ
    cells = bar_window w c (told w size from a (from + k)) a (pos (from + k))

    here : (b : Bool) → length (held w c size from a k) ≤ size → length (fold replayed (held w c size from a k) (cond b (window_row w c size from (from + k) a ∷ []) [])) ≤ size
    here true few =
        omega (
          arith,
          length-append (drop (length cells) (held w c size from a k)) cells,
          length-drop (length cells) (held w c size from a k),
          window-long w c (told w size from a (from + k)) a (pos (from + k)),
          told-few w size from a (from + k) some,
          few,
        )
    here false few = few

-- ---- a window that moves on by a session

last-is : {X : Type 0} (g : ℕ → X) (m : ℕ) → map g (downward (suc m)) ≡ map (λ n. g (suc n)) (downward m) ++ g 0 ∷ []
last-is g zero = refl
last-is g (suc m) = ap (λ l. g (suc m) ∷ l) (last-is g m)

any-none : {X : Type 0} (p : X → Bool) (xs : List X) → list_any p xs ≡ false → filter p xs ≡ []
any-none p [] h = refl
any-none p (x ∷ xs) h = here (p x) h (any-none p xs)
  where
    here : (b : Bool) → (b || list_any p xs) ≡ false → (list_any p xs ≡ false → filter p xs ≡ []) → cond b (x ∷ filter p xs) (filter p xs) ≡ []
    here true bad rest = absurd cc
    here false none rest = rest none

day-there : (w : World) (a d : ℕ) → exists w a (pos d) ≡ true → (day : ℤ) × (slice_get w.days d ≡ Some day)
day-there w a d e = here (slice_get w.days d) refl e
  where
    here : (o : Option ℤ) → slice_get w.days d ≡ o
        → list_any (λ x. x == a) (unwrap_or (option_map (λ day. map (λ (b : AssetRow). b.sid) (filter (lives_on day) w.assets)) o) []) ≡ true
        → (day : ℤ) × (slice_get w.days d ≡ Some day)
    here None at bad = absurd cc
    here (Some day) at has = (day, at)

module _ (w : World) (ok : IsWorld w) (c : Column) (a d : ℕ) (was : exists w a (pos d) ≡ true) (is : exists w a (pos (d + 1)) ≡ true) (same : is_changed w a (pos (d + 1)) ≡ false) where
  today : (day : ℤ) × (slice_get w.days d ≡ Some day)
  today = day-there w a d was

  next_day : (day : ℤ) × (slice_get w.days (d + 1) ≡ Some day)
  next_day = day-there w a (d + 1) is

  none-between : filter (is_between today.0 next_day.0) (events_of w a) ≡ []
  unfolding is_changed
  none-between =
      let one : before (pos (d + 1)) 1 ≡ pos d = omega (arith, ints) in
      any-none (is_between today.0 next_day.0) (events_of w a)
      (sym (ap (λ x. has_between (day_of w x) (day_of w (pos (d + 1))) (events_of w a)) one
      ∙ ap (λ (o : Option ℤ). has_between o (day_of w (pos (d + 1))) (events_of w a)) today.1
      ∙ ap (λ (o : Option ℤ). has_between (Some today.0) o (events_of w a)) next_day.1) ∙ same)

  -- a bar is seen as it was on the session before
  seen-still : (s : ℤ) → ((n : ℕ) → s ≡ pos n → n ≤ d) → seen_cell w a c s (pos d) ≡ seen_cell w a c s (pos (d + 1))
  unfolding seen_cell
  seen-still (pos s) early =
      sym (ap (λ es. after_all (seen_cell w a c (pos s) (pos d)) (filter_map (effect c (get_or w.days s (pos 0))) es)) none-between)
      ∙ moved_is_seen w ok a c s d today.0 next_day.0 (early s refl) today.1 next_day.1
  seen-still (negsuc s) early =
      ap (after_all MISSING) (no-effects c (day_of w (pos d)) (events_of w a) ∙ sym (no-effects c (day_of w (pos (d + 1))) (events_of w a)))

  earlier : (m n : ℕ) → before (pos d) (suc m) ≡ pos n → n ≤ d
  earlier m n e = omega (arith, ints, e)

  -- without its oldest cell, and with the newest one, the window is that of the next session
  window-moves : (m : ℕ) → drop 1 (bar_window w c (suc m) a (pos d)) ++ bar_window w c 1 a (pos (d + 1)) ≡ bar_window w c (suc m) a (pos (d + 1))
  window-moves m =
      let g : ℕ → ℤ = λ n. seen_cell w a c (before (pos (d + 1)) (suc n)) (pos (d + 1)) in
      let each : (n : ℕ) → n < m → seen_cell w a c (before (pos d) (suc n)) (pos d) ≡ g (suc n) = (λ n l.
      let place : before (pos d) (suc n) ≡ before (pos (d + 1)) (suc (suc n)) = omega (arith, ints) in
      seen-still (before (pos d) (suc n)) (earlier n) ∙ ap (λ s. seen_cell w a c s (pos (d + 1))) place) in
      ap (λ l. l ++ g 0 ∷ []) (map-downward (λ n. seen_cell w a c (before (pos d) (suc n)) (pos d)) (λ n. g (suc n)) m each)
      ∙ sym (last-is g m)

-- ---- the law

not-whole : (p q r : Bool) → (p || (not q || r)) ≡ false → (p ≡ false) × (q ≡ true) × (r ≡ false)
not-whole true q r h = absurd cc
not-whole false false r h = absurd cc
not-whole false true r h = (refl, refl, h)

same-not : (d : ℕ) → (d == d) ≡ false → ⊥
same-not d h = grind (arith, nat_tests)

module _ (w : World) (ok : IsWorld w) (c : Column) (m from a : ℕ) where
  abbrev size : ℕ
  size = suc m

  abbrev holds : ℕ → Type 0
  holds k = held w c size from a (suc k) ≡ bar_window w c size a (pos (from + k))

  put : (k : ℕ) → exists w a (pos (from + k)) ≡ true → (b : Bool) → is_whole w from a (from + k) ≡ b
      → held w c size from a (suc k) ≡ drop (if b then size else 1) (held w c size from a k) ++ bar_window w c (if b then size else 1) a (pos (from + k))
  put k e b t =
      held-next w ok c size from a k
      ∙ ap (λ x. fold replayed (held w c size from a k) (cond x (window_row w c size from (from + k) a ∷ []) [])) e
      ∙ ap (λ n. drop n (held w c size from a k) ++ bar_window w c (told w size from a (from + k)) a (pos (from + k))) (window-long w c (told w size from a (from + k)) a (pos (from + k)))
      ∙ ap (λ x. drop (if x then size else 1) (held w c size from a k) ++ bar_window w c (if x then size else 1) a (pos (from + k))) t

  whole : (k : ℕ) → exists w a (pos (from + k)) ≡ true → is_whole w from a (from + k) ≡ true → holds k
  whole k e t = put k e true t ∙ ap (λ l. l ++ bar_window w c size a (pos (from + k))) (drop_all size (held w c size from a k) (held-few w ok c size from a k (omega arith)))

  -- on a session on which one cell is told, the asset existed on the session before and is unchanged since
  one-told : (d : ℕ) → is_whole w from a d ≡ false → ((d == from) ≡ false) × (exists w a (before (pos d) 1) ≡ true) × (is_changed w a (pos d) ≡ false)
  unfolding is_whole
  one-told d t = not-whole (d == from) (exists w a (before (pos d) 1)) (is_changed w a (pos d)) t

  -- so its window moves on
  moves : (k : ℕ) → exists w a (pos (from + suc k)) ≡ true → is_whole w from a (from + suc k) ≡ false → (exists w a (pos (from + k)) ≡ true → holds k) → holds (suc k)
  moves k e t before_it =
      let one = one-told (from + suc k) t in
      let place : from + suc k ≡ (from + k) + 1 = omega arith in
      let earlier : before (pos (from + suc k)) 1 ≡ pos (from + k) = omega (arith, ints) in
      let was : exists w a (pos (from + k)) ≡ true = sym (ap (exists w a) earlier) ∙ one.1 in
      let is : exists w a (pos (from + k + 1)) ≡ true = sym (ap (λ d. exists w a (pos d)) place) ∙ e in
      let same : is_changed w a (pos (from + k + 1)) ≡ false = sym (ap (λ d. is_changed w a (pos d)) place) ∙ one.2 in
      put (suc k) e false t
      ∙ ap (λ l. drop 1 l ++ bar_window w c 1 a (pos (from + suc k))) (before_it was)
      ∙ ap (λ d. drop 1 (bar_window w c size a (pos (from + k))) ++ bar_window w c 1 a (pos d)) place
      ∙ window-moves w ok c a (from + k) was is same m
      ∙ ap (λ d. bar_window w c size a (pos d)) (sym place)

  pub replay : (k : ℕ) → exists w a (pos (from + k)) ≡ true → holds k
  replay zero e = first (is_whole w from a (from + 0)) refl
    where
      first : (b : Bool) → is_whole w from a (from + 0) ≡ b → holds 0
      first true t = whole 0 e t
      first false t = let at : from + 0 ≡ from = omega arith in absurd (same-not from (sym (ap (λ d. d == from) at) ∙ (one-told (from + 0) t).0))
  replay (suc k) e = next (is_whole w from a (from + suc k)) refl (replay k)
    where
      next : (b : Bool) → is_whole w from a (from + suc k) ≡ b → (exists w a (pos (from + k)) ≡ true → holds k) → holds (suc k)
      next true t before_it = whole (suc k) e t
      next false t before_it = moves k e t before_it

pub rows_replay : RowsReplayToWindows
rows_replay w ok c zero from d a some late e = absurd (omega (arith, some))
rows_replay w ok c (suc m) from d a some late e =
    let place : from + (d - from) ≡ d = omega (arith, late) in
    let count : suc d - from ≡ suc (d - from) = omega (arith, late) in
    ap (held w c (suc m) from a) count
    ∙ replay w ok c m from a (d - from) (ap (λ s. exists w a (pos s)) place ∙ e)
    ∙ ap (λ s. bar_window w c (suc m) a (pos s)) place
