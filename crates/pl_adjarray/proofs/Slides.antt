-- A buffer that goes to the next session: its rows, and a window of them.
use Rattle.std.proofs.Common.{[], ◌≡◌, ℕ, ◌+◌, ◌-◌, ◌*◌, ◌<◌, ◌≤◌, ℤ, pos, ◌+ℤ◌, ◌≤ℤ◌, List, length, get_or, Some, slice_get, sym, ◌∙◌, ap, arith, inl, inr, sum_by}
use Rattle.std.proofs.lemmas.Int.{ints}
use Rattle.std.proofs.lemmas.Option.{get_or_from_slice_get, slice_get_within, slice_get-get_or}
use Rattle.std.proofs.lemmas.Bool.{cases_lt}
use Rattle.std.proofs.lemmas.List.Sums.{sum_by-append}
use Rattle.pl_spec.specs.World.{World, IsWorld, day_of, bar_cell, events_of}
use Rattle.pl_spec.specs.declared.Column.{Column}
use Rattle.pl_spec.specs.Window.{seen_cell, after_all, effects, effects_in, step_count, step_of}
use Rattle.pl_spec.proofs.Buffer.{effects-split, no_effects, seen_next}
use Rattle.pl_spec.proofs.Steps.{bars-alike}
use Rattle.pl_spec.specs.Limits.{saturated}
use Rattle.pl_adjarray.specs.Buffered.{Buffered, AreSeen, cell_at, ratio_count, row_count, applied_at, world_of}
use Rattle.pl_adjarray.specs.Inside.{IsReadyBuffer}
use Rattle.pl_adjarray.proofs.Counts.{rows_gain, no_rows, no_assets, assets_gain}

-- the days ascend with the sessions
pub days_le : (w : World) → IsWorld w → (s d : ℕ) (low high : ℤ) → s ≤ d → slice_get w.days s ≡ Some low → slice_get w.days d ≡ Some high → low ≤ℤ high
days_le w ok s d low high h at_s at_d =
    elim (cases_lt s d) [
      | inl p ↦ (let q = ok.days_ascend s d (pos 0) p (slice_get_within w.days d high at_d) in
          let x = get_or_from_slice_get w.days s low (pos 0) at_s in let y = get_or_from_slice_get w.days d high (pos 0) at_d in omega (arith, ints))
      | inr p ↦ (let same : s ≡ d = omega arith in
          let e : low ≡ high = sym (get_or_from_slice_get w.days s low (pos 0) at_s) ∙ ap (λ k. get_or w.days k (pos 0)) same ∙ get_or_from_slice_get w.days d high (pos 0) at_d in omega (arith, ints))
    ]

pub has_day : (w : World) (s : ℕ) → s < length w.days → slice_get w.days s ≡ Some (get_or w.days s (pos 0))
has_day w s h = slice_get-get_or w.days s (pos 0) h

one_on : (d : ℕ) → pos d +ℤ pos 1 ≡ pos (d + 1)
one_on d = omega (arith, ints)

module _ (w : World) (ok : IsWorld w) (a : ℕ) (c : Column) where
  -- nothing acts on a bar up to its own session
  no_effects_yet : (s d : ℕ) → d ≤ s → s < length w.days → effects w a c (pos s) (pos d) ≡ []
  no_effects_yet s d h in_days =
      let at_s = has_day w s in_days in
      let at_d = has_day w d (omega arith) in
      rw (at_s, at_d) (no_effects c (get_or w.days s (pos 0)) (get_or w.days s (pos 0)) (get_or w.days d (pos 0)) (days_le w ok d s _ _ h at_d at_s) (events_of w a))

  -- a raw bar is as it is seen on each session up to its own
  pub raw_is_seen : (s d : ℕ) → d ≤ s → s < length w.days → seen_cell w a c (pos s) (pos d) ≡ bar_cell w a c (pos s)
  unfolding seen_cell
  raw_is_seen s d h in_days = ap (after_all (bar_cell w a c (pos s))) (no_effects_yet s d h in_days)

  pub none_counted : (s d : ℕ) → d ≤ s → s < length w.days → step_count (effects w a c (pos s) (pos d)) ≡ 0
  none_counted s d h in_days = ap step_count (no_effects_yet s d h in_days)

  -- a row that is older moves by the events of the new day, which act on the bar of its own day
  pub moved_is_seen : (s d : ℕ) (from to : ℤ) → s ≤ d → slice_get w.days d ≡ Some from → slice_get w.days (d + 1) ≡ Some to
      → after_all (seen_cell w a c (pos s) (pos d)) (effects_in c (get_or w.days s (pos 0)) from to (events_of w a)) ≡ seen_cell w a c (pos s) (pos (d + 1))
  moved_is_seen s d from to h at_d at_next =
      let in_days = slice_get_within w.days d from at_d in
      let at_s = has_day w s (omega arith) in
      let next : day_of w (pos d +ℤ pos 1) ≡ Some to = ap (day_of w) (one_on d) ∙ at_next in
      sym (ap (λ k. seen_cell w a c (pos s) k) (sym (one_on d))
      ∙ seen_next w a c (pos s) (pos d) (get_or w.days s (pos 0)) from to ok at_s at_d next (days_le w ok s d _ from h at_s at_d) (days_le w ok d (d + 1) from to (omega arith) at_d at_next))

  -- and counts as many steps more as the events have on a bar of any day
  pub counts_gain : (bar : ℤ) (s d : ℕ) (from to : ℤ) → s ≤ d → slice_get w.days d ≡ Some from → slice_get w.days (d + 1) ≡ Some to
      → step_count (effects w a c (pos s) (pos (d + 1))) ≡ step_count (effects w a c (pos s) (pos d)) + step_count (effects_in c bar from to (events_of w a))
  counts_gain bar s d from to h at_d at_next =
      let in_days = slice_get_within w.days d from at_d in
      let at_s = has_day w s (omega arith) in
      let low = get_or w.days s (pos 0) in
      let es = events_of w a in
      let split = effects-split c low low from to (days_le w ok s d low from h at_s at_d) (days_le w ok d (d + 1) from to (omega arith) at_d at_next) es (ok.events_in_order a) in
      let all : step_count (effects_in c low low to es) ≡ step_count (effects_in c low low from es) + step_count (effects_in c low from to es) = ap step_count split ∙ sum_by-append step_of (effects_in c low low from es) (effects_in c low from to es) in
      rw (at_s, at_d, at_next) (all ∙ ap (λ n. step_count (effects_in c low low from es) + n) (bars-alike.steps c low bar from to es))

-- ---- the buffer

module _ (b : Buffered) (ready : IsReadyBuffer b) where
  pub raw_at_first : (cells : List ℤ) → ((i j : ℕ) → i < length b.cols → j < b.rows → cell_at cells (i * b.rows + j) ≡ bar_cell (world_of b) (get_or b.cols i 0) b.column (pos (b.first + j)))
      → AreSeen b cells b.first
  raw_at_first cells raw i j h k =
      let d = ready.range in
      raw i j h k ∙ sym (raw_is_seen (world_of b) ready.world (get_or b.cols i 0) b.column (b.first + j) b.first (omega arith) (omega arith))

  pub none_applied : applied_at b b.first ≡ 0
  none_applied = let d = ready.range in
      no_assets (row_count b b.first) b.cols (λ i l. no_rows (λ s. step_count (effects (world_of b) (get_or b.cols i 0) b.column (pos s) (pos b.first))) b.first b.rows
      (λ s h k. none_counted (world_of b) ready.world (get_or b.cols i 0) b.column s b.first h (omega arith)))

  module _ (d : ℕ) (from to : ℤ) (low : b.first ≤ d) (high : d < b.first + b.rows) (at_d : slice_get b.days d ≡ Some from) (at_next : slice_get b.days (d + 1) ≡ Some to) where
    pub next_seen : (old new : List ℤ) → AreSeen b old d
        → ((bar : ℤ) (i j : ℕ) → i < length b.cols → j < d - b.first + 1 → slice_get b.days (b.first + j) ≡ Some bar → cell_at new (i * b.rows + j)
        ≡ after_all (cell_at old (i * b.rows + j)) (effects_in b.column bar from to (events_of (world_of b) (get_or b.cols i 0))))
        → ((i j : ℕ) → i < length b.cols → d - b.first + 1 ≤ j → j < b.rows → cell_at new (i * b.rows + j) ≡ cell_at old (i * b.rows + j))
        → AreSeen b new (d + 1)
    next_seen old new seen moved kept i j h k =
        let range = ready.range in
        let a = get_or b.cols i 0 in
        elim (cases_lt j (d - b.first + 1)) [
          | inl p ↦ (moved (get_or b.days (b.first + j) (pos 0)) i j h p (has_day (world_of b) (b.first + j) (omega arith))
              ∙ ap (λ x. after_all x (effects_in b.column (get_or b.days (b.first + j) (pos 0)) from to (events_of (world_of b) a))) (seen i j h k)
              ∙ moved_is_seen (world_of b) ready.world a b.column (b.first + j) d from to (omega arith) at_d at_next)
          | inr p ↦ (kept i j h p k ∙ seen i j h k
              ∙ raw_is_seen (world_of b) ready.world a b.column (b.first + j) d (omega arith) (omega arith)
              ∙ sym (raw_is_seen (world_of b) ready.world a b.column (b.first + j) (d + 1) (omega arith) (omega arith)))
        ]

    pub next_applied : (bar : ℤ) → applied_at b (d + 1) ≡ applied_at b d + (d - b.first + 1) * sum_by (ratio_count b bar from to) b.cols
    next_applied bar =
        let range = ready.range in
        let all : (d - b.first + 1) + (b.rows - (d - b.first + 1)) ≡ b.rows = omega arith in
        assets_gain (row_count b (d + 1)) (row_count b d) (ratio_count b bar from to) (d - b.first + 1) b.cols
        (λ a. rw all at (rows_gain (λ s. step_count (effects (world_of b) a b.column (pos s) (pos (d + 1)))) (λ s. step_count (effects (world_of b) a b.column (pos s) (pos d)))
        (ratio_count b bar from to a) b.first (d - b.first + 1) (b.rows - (d - b.first + 1))
        (λ s h k. counts_gain (world_of b) ready.world a b.column bar s d from to (omega arith) at_d at_next)
        (λ s h k. none_counted (world_of b) ready.world a b.column s (d + 1) (omega arith) (omega arith) ∙ sym (none_counted (world_of b) ready.world a b.column s d (omega arith) (omega arith)))))

pub next_cut : (applied next before after gain : ℕ) → saturated applied ≡ saturated before → saturated next ≡ saturated (applied + gain) → after ≡ before + gain → saturated next ≡ saturated after
next_cut applied next before after gain e f g = omega arith

pub next_cost : (old new before after gain : ℕ) → new ≡ old + gain → after ≡ before + gain → new + before ≡ old + after
next_cost old new before after gain e f = omega arith
