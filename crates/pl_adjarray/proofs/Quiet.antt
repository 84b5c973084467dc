-- A buffer in which nothing changes for a while, and windows of it on all the sessions.
use Rattle.std.proofs.Common.{◌≡◌, Bool, true, false, cond, ℕ, zero, suc, ◌+◌, ◌-◌, ◌*◌, ◌<◌, ◌≤◌, ℤ, pos, ◌≤ℤ◌, List, [], ◌∷◌, All, length, filter, filter_map, take, drop, get_or, sum_by, Some, slice_get, refl, sym, ◌∙◌, ap, subst, arith, inl, inr, length-take, length-drop, take_all}
use Rattle.std.proofs.lemmas.Bool.{cases_lt}
use Rattle.std.proofs.lemmas.List.{get_or_default, get_or-take, get_or-drop}
use Rattle.pl_spec.specs.Rounding.{IsCell}
use Rattle.pl_spec.specs.World.{World, IsWorld, Event, events_of}
use Rattle.pl_spec.specs.declared.Column.{Column}
use Rattle.pl_spec.specs.Window.{after_all, bar_window, effect, is_between, seen_cell, step_count}
use Rattle.pl_spec.proofs.Windows.{bar_window-sessions}
use Rattle.pl_adjarray.specs.Buffered.{Buffered, AreSeen, HasCells, applied_at, cell_at, col_at, ratio_count, world_of}
use Rattle.pl_adjarray.specs.Inside.{IsReadyBuffer}
use Rattle.pl_adjarray.specs.Stillness.{IsStill}
use Rattle.pl_adjarray.proofs.Counts.{no_assets}
use Rattle.pl_adjarray.proofs.Places.{part_is, rows_within}
use Rattle.pl_adjarray.proofs.Slides.{days_le, has_day, moved_is_seen, next_applied, raw_is_seen}

-- no event is between two days that lie within two others between which none is
pub within_none : (low high from to : ℤ) → low ≤ℤ from → to ≤ℤ high → (es : List Event) → filter (is_between low high) es ≡ [] → filter (is_between from to) es ≡ []
within_none low high from to l h [] none = refl
within_none low high from to l h (e ∷ es) none = here (is_between low high e) refl none (within_none low high from to l h es)
  where
    here : (b : Bool) → is_between low high e ≡ b → cond b (e ∷ filter (is_between low high) es) (filter (is_between low high) es) ≡ []
        → (filter (is_between low high) es ≡ [] → filter (is_between from to) es ≡ [])
        → cond (is_between from to e) (e ∷ filter (is_between from to) es) (filter (is_between from to) es) ≡ []
    here true p q rest = absurd (let z = ap length q in omega (arith, z))
    here false p q rest =
        let out : is_between from to e ≡ false = grind (p, arith) in
        rw out (rest q)

-- where no event is between, a bar is seen as it was
still_seen : (w : World) → IsWorld w → (a : ℕ) (c : Column) (s d : ℕ) (from to : ℤ) → s ≤ d → slice_get w.days d ≡ Some from → slice_get w.days (d + 1) ≡ Some to
    → filter (is_between from to) (events_of w a) ≡ [] → seen_cell w a c (pos s) (pos (d + 1)) ≡ seen_cell w a c (pos s) (pos d)
still_seen w ok a c s d from to h at_d at_next none =
    sym (moved_is_seen w ok a c s d from to h at_d at_next)
    ∙ ap (λ es. after_all (seen_cell w a c (pos s) (pos d)) (filter_map (effect c (get_or w.days s (pos 0))) es)) none

module _ (b : Buffered) (ready : IsReadyBuffer b) (d n : ℕ) (low : b.first ≤ d) (high : d + n ≤ b.first + b.rows) (from to : ℤ) (at_d : slice_get b.days d ≡ Some from) (at_end : slice_get b.days (d + n) ≡ Some to)
    (none : (i : ℕ) → i < length b.cols → filter (is_between from to) (events_of (world_of b) (col_at b i)) ≡ []) where
  -- from a session to the next
  module _ (m : ℕ) (more : m < n) where
    today : slice_get b.days (d + m) ≡ Some (get_or b.days (d + m) (pos 0))
    today = let r = ready.range in has_day (world_of b) (d + m) (omega (arith, r, high, more))

    next_day : slice_get b.days (d + m + 1) ≡ Some (get_or b.days (d + m + 1) (pos 0))
    next_day = let r = ready.range in has_day (world_of b) (d + m + 1) (omega (arith, r, high, more))

    none_now : (i : ℕ) → i < length b.cols → filter (is_between (get_or b.days (d + m) (pos 0)) (get_or b.days (d + m + 1) (pos 0))) (events_of (world_of b) (col_at b i)) ≡ []
    none_now i h =
        within_none from to (get_or b.days (d + m) (pos 0)) (get_or b.days (d + m + 1) (pos 0))
        (days_le (world_of b) ready.world d (d + m) from (get_or b.days (d + m) (pos 0)) (omega arith) at_d today)
        (days_le (world_of b) ready.world (d + m + 1) (d + n) (get_or b.days (d + m + 1) (pos 0)) to (omega (arith, more)) next_day at_end)
        (events_of (world_of b) (col_at b i)) (none i h)

    seen_one : (i j : ℕ) → i < length b.cols → j < b.rows
        → seen_cell (world_of b) (col_at b i) b.column (pos (b.first + j)) (pos (d + m + 1)) ≡ seen_cell (world_of b) (col_at b i) b.column (pos (b.first + j)) (pos (d + m))
    seen_one i j h k = let r = ready.range in elim (cases_lt (d + m) (b.first + j)) [
      | inl p ↦ (raw_is_seen (world_of b) ready.world (col_at b i) b.column (b.first + j) (d + m + 1) (omega (arith, p)) (omega (arith, r, k))
          ∙ sym (raw_is_seen (world_of b) ready.world (col_at b i) b.column (b.first + j) (d + m) (omega (arith, p)) (omega (arith, r, k))))
      | inr p ↦ still_seen (world_of b) ready.world (col_at b i) b.column (b.first + j) (d + m) (get_or b.days (d + m) (pos 0)) (get_or b.days (d + m + 1) (pos 0)) (omega (arith, p)) today next_day (none_now i h)
    ]

    applied_one : applied_at b (d + m + 1) ≡ applied_at b (d + m)
    applied_one =
        let gain = next_applied b ready (d + m) (get_or b.days (d + m) (pos 0)) (get_or b.days (d + m + 1) (pos 0)) (omega (arith, low)) (omega (arith, high, more)) today next_day (pos 0) in
        let zero_gain : sum_by (ratio_count b (pos 0) (get_or b.days (d + m) (pos 0)) (get_or b.days (d + m + 1) (pos 0))) b.cols ≡ 0
        = no_assets _ b.cols (λ i h. ap (λ es. step_count (filter_map (effect b.column (pos 0)) es)) (none_now i h)) in
        gain ∙ (rw zero_gain (omega arith))

  seen_all : (i j m : ℕ) → i < length b.cols → j < b.rows → m ≤ n
      → seen_cell (world_of b) (col_at b i) b.column (pos (b.first + j)) (pos (d + m)) ≡ seen_cell (world_of b) (col_at b i) b.column (pos (b.first + j)) (pos d)
  seen_all i j zero h k l = let e : d + 0 ≡ d = omega arith in ap (λ x. seen_cell (world_of b) (col_at b i) b.column (pos (b.first + j)) (pos x)) e
  seen_all i j (suc m) h k l =
      let e : d + suc m ≡ d + m + 1 = omega arith in
      ap (λ x. seen_cell (world_of b) (col_at b i) b.column (pos (b.first + j)) (pos x)) e ∙ seen_one m (omega (arith, l)) i j h k ∙ seen_all i j m h k (omega (arith, l))

  applied_all : (m : ℕ) → m ≤ n → applied_at b (d + m) ≡ applied_at b d
  applied_all zero l = let e : d + 0 ≡ d = omega arith in ap (applied_at b) e
  applied_all (suc m) l = let e : d + suc m ≡ d + m + 1 = omega arith in ap (applied_at b) e ∙ applied_one m (omega (arith, l)) ∙ applied_all m (omega (arith, l))

  pub still_is : IsStill b d n
  still_is = record { within = high; seen = seen_all; applied = applied_all }

-- where nothing changes on some sessions, nothing does on fewer
pub still_fewer : (b : Buffered) (d n m : ℕ) → m ≤ n → IsStill b d n → IsStill b d m
still_fewer b d n m h s = record {
  within = (let w = s.within in omega (arith, w, h));
  seen = λ i j k a r l. s.seen i j k a r (omega (arith, l, h));
  applied = λ k l. s.applied k (omega (arith, l, h));
}

module _ (b : Buffered) (cells : List ℤ) (d n : ℕ) (still : IsStill b d n) where
  module _ (size i : ℕ) (begun : b.first + size ≤ d) (asset : i < length b.cols) (long : length cells ≡ b.rows * length b.cols) where
    abbrev start : ℕ
    start = i * b.rows + (d - b.first) - size

    abbrev reached : List ℤ
    reached = take ((i * b.rows + (d - b.first) + n) - start) (drop start cells)

    room : start + (size + n) ≤ length cells
    room = let m : i * b.rows + b.rows ≤ b.rows * length b.cols = rows_within i (length b.cols) b.rows asset in let w = still.within in omega (arith, m, w, begun, long)

    count_is : (i * b.rows + (d - b.first) + n) - start ≡ size + n
    count_is = omega (arith, begun)

    pub reached_long : length reached ≡ size + n
    reached_long = let r = room in let c = count_is in
        let t = length-take ((i * b.rows + (d - b.first) + n) - start) (drop start cells) in let e = length-drop start cells in omega (arith, r, c, t, e)

    reached_at : (k : ℕ) (v : ℤ) → k < size + n → get_or reached k v ≡ cell_at cells (i * b.rows + ((d - b.first - size) + k))
    reached_at k v h =
        let r = room in let c = count_is in
        let place : start + k ≡ i * b.rows + ((d - b.first - size) + k) = omega (arith, begun) in
        get_or-take _ (drop start cells) k v (omega (arith, h, c))
        ∙ get_or-drop start cells k v
        ∙ get_or_default cells (start + k) v (pos 0) (omega (arith, r, h))
        ∙ ap (cell_at cells) place

    pub reached_window : AreSeen b cells d → (m : ℕ) → m ≤ n → take size (drop m reached) ≡ bar_window (world_of b) b.column size (col_at b i) (pos (d + m))
    reached_window seen m h =
        let w = still.within in
        let l = reached_long in
        part_is reached m size (d + m - size) (λ s. seen_cell (world_of b) (col_at b i) b.column (pos s) (pos (d + m))) (omega (arith, l, h))
        (λ k q.
        let row : b.first + ((d - b.first - size) + (m + k)) ≡ d + m - size + k = omega (arith, begun) in
        let in_rows : (d - b.first - size) + (m + k) < b.rows = omega (arith, begun, w, h, q) in
        reached_at (m + k) (pos 0) (omega (arith, h, q))
        ∙ seen i ((d - b.first - size) + (m + k)) asset in_rows
        ∙ sym (still.seen i ((d - b.first - size) + (m + k)) m asset in_rows h)
        ∙ ap (λ s. seen_cell (world_of b) (col_at b i) b.column (pos s) (pos (d + m))) row)
        ∙ sym (bar_window-sessions (world_of b) b.column (col_at b i) (d + m) size (omega (arith, begun)))

    pub reached_cells : HasCells b cells → All IsCell reached
    reached_cells has k v h =
        let w = still.within in
        let l = reached_long in
        let inside : k < size + n = omega (arith, h, l) in
        subst IsCell (sym (reached_at k v inside)) (has i ((d - b.first - size) + k) asset (omega (arith, begun, w, inside)))

-- on no session more nothing changes
still_here : (b : Buffered) (d : ℕ) → d ≤ b.first + b.rows → IsStill b d 0
still_here b d h = record {
  within = omega (arith, h);
  seen = λ i j m k r z. let e : d + m ≡ d = omega (arith, z) in ap (λ x. seen_cell (world_of b) (col_at b i) b.column (pos (b.first + j)) (pos x)) e;
  applied = λ m z. let e : d + m ≡ d = omega (arith, z) in ap (applied_at b) e;
}

-- the window on a session alone
module _ (b : Buffered) (cells : List ℤ) (d size i : ℕ) (begun : b.first + size ≤ d) (high : d ≤ b.first + b.rows) (asset : i < length b.cols) (long : length cells ≡ b.rows * length b.cols) where
  abbrev end : ℕ
  end = i * b.rows + (d - b.first)

  same_end : end + 0 ≡ end
  same_end = omega arith

  pub window_is : AreSeen b cells d → take (i * b.rows + (d - b.first) - (i * b.rows + (d - b.first) - size)) (drop (i * b.rows + (d - b.first) - size) cells) ≡ bar_window (world_of b) b.column size (get_or b.cols i 0) (pos d)
  window_is seen =
      let still = still_here b d high in
      let whole = take_all size (reached b cells d 0 still size i begun asset long) (let l = reached_long b cells d 0 still size i begun asset long in omega (arith, l)) in
      let on : d + 0 ≡ d = omega arith in
      subst (λ e. take (e - (end - size)) (drop (end - size) cells) ≡ bar_window (world_of b) b.column size (col_at b i) (pos d)) same_end
      (sym whole ∙ reached_window b cells d 0 still size i begun asset long seen 0 (omega arith) ∙ ap (λ x. bar_window (world_of b) b.column size (col_at b i) (pos x)) on)

  pub window_has_cells : HasCells b cells → All IsCell (take (i * b.rows + (d - b.first) - (i * b.rows + (d - b.first) - size)) (drop (i * b.rows + (d - b.first) - size) cells))
  window_has_cells has = subst (λ e. All IsCell (take (e - (end - size)) (drop (end - size) cells))) same_end (reached_cells b cells d 0 (still_here b d high) size i begun asset long has)
