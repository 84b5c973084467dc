-- What is seen in the world of columns is what is seen in each world of the parts.
use Rattle.std.proofs.Common.{◌≡◌, ℕ, suc, ◌+◌, ◌<◌, ℤ, pos, negsuc, List, [], ◌∷◌, map, length, get_or, sum_by, All, refl, sym, ◌∙◌, ap, arith}
use Rattle.std.specs.List.{range_with_len}
use Rattle.std.proofs.lemmas.List.Sums.{sum_by-cons}
use Rattle.std.proofs.lemmas.Option.{slice_get-get_or}
use Rattle.pl_spec.specs.declared.AssetRow.{AssetRow}
use Rattle.pl_spec.specs.declared.BarRow.{BarRow}
use Rattle.pl_spec.specs.declared.Column.{Column}
use Rattle.pl_spec.specs.Parts.{AreFor, ColumnAdjustment, ColumnLabel, ColumnNumber, sid_at, world_of}
use Rattle.pl_spec.specs.World.{bar_cell, day_of, events_of}
use Rattle.pl_spec.specs.Window.{after_all, bar_window, before, downward, effects, effects_from, seen_cell, step_count}
use Rattle.pl_spec.proofs.Columns.{no_asset, sid-there}
use Rattle.pl_bars.proofs.BarWorlds.{cells_raw}
use Rattle.pl_adjust.proofs.Sids.{column_events}
use Rattle.pl_adjarray.specs.Buffered.{column_world}
use Rattle.pl_adjarray.specs.Worlds.{CountsAreOfTheWorld, WholeCountsAreOfTheWorld, applied_in}
use Rattle.pl_adjarray.proofs.ColumnWorlds.{own_cell, own_events}

module _ (days : List ℤ) (assets : List AssetRow) (labels : List ColumnLabel) (texts : List (List ℕ)) (bars : List BarRow) (xs : List ColumnAdjustment) (numbers : List ColumnNumber)
    (made : AreFor days assets labels bars xs numbers) where
  module _ (col : ℕ) (inside : col < length assets) where
    own-events-same : events_of (column_world days bars xs) col ≡ events_of (world_of days assets labels texts bars xs numbers) (sid_at assets col)
    own-events-same =
        own_events days bars xs col
        ∙ sym (ap (events_of (world_of days assets labels texts bars xs numbers)) (sid-there assets col inside)
        ∙ column_events days assets labels texts bars xs numbers made.sids_ascend made.adjustments_in col (get_or assets col no_asset) (slice_get-get_or assets col no_asset inside))

    pub effects-same : (c : Column) (s d : ℤ) → effects (column_world days bars xs) col c s d ≡ effects (world_of days assets labels texts bars xs numbers) (sid_at assets col) c s d
    effects-same c s d = ap (effects_from c (day_of (column_world days bars xs) s) (day_of (column_world days bars xs) d)) own-events-same

    cell-same : (c : Column) (s : ℤ) → bar_cell (column_world days bars xs) col c s ≡ bar_cell (world_of days assets labels texts bars xs numbers) (sid_at assets col) c s
    cell-same c (pos s) =
        sym (own_cell days bars xs col c s) ∙ cells_raw days assets labels texts bars xs numbers made.sids_ascend made.bars_in col c s inside
    cell-same c (negsuc s) = refl

    seen-same : (c : Column) (s d : ℤ) → seen_cell (column_world days bars xs) col c s d ≡ seen_cell (world_of days assets labels texts bars xs numbers) (sid_at assets col) c s d
    unfolding seen_cell
    seen-same c s d =
        ap (λ x. after_all x (effects (column_world days bars xs) col c s d)) (cell-same c s)
        ∙ ap (after_all (bar_cell (world_of days assets labels texts bars xs numbers) (sid_at assets col) c s)) (effects-same c s d)

    map-same : (c : Column) (d : ℤ) (ns : List ℕ) → map (λ n. seen_cell (column_world days bars xs) col c (before d (suc n)) d) ns
        ≡ map (λ n. seen_cell (world_of days assets labels texts bars xs numbers) (sid_at assets col) c (before d (suc n)) d) ns
    map-same c d [] = refl
    map-same c d (n ∷ ns) =
        ap (λ x. x ∷ map (λ n. seen_cell (column_world days bars xs) col c (before d (suc n)) d) ns) (seen-same c (before d (suc n)) d)
        ∙ ap (λ l. seen_cell (world_of days assets labels texts bars xs numbers) (sid_at assets col) c (before d (suc n)) d ∷ l) (map-same c d ns)

    pub window-same : (c : Column) (size : ℕ) (d : ℤ) → bar_window (column_world days bars xs) c size col d ≡ bar_window (world_of days assets labels texts bars xs numbers) c size (sid_at assets col) d
    window-same c size d = map-same c d (downward size)

    rows-same : (c : Column) (d : ℕ) (ss : List ℕ) → sum_by (λ s. step_count (effects (column_world days bars xs) col c (pos s) (pos d))) ss
        ≡ sum_by (λ s. step_count (effects (world_of days assets labels texts bars xs numbers) (sid_at assets col) c (pos s) (pos d))) ss
    rows-same c d [] = refl
    rows-same c d (s ∷ ss) =
        sum_by-cons (λ s. step_count (effects (column_world days bars xs) col c (pos s) (pos d))) s ss
        ∙ ap (λ es. step_count es + sum_by (λ s. step_count (effects (column_world days bars xs) col c (pos s) (pos d))) ss) (effects-same c (pos s) (pos d))
        ∙ ap (λ n. step_count (effects (world_of days assets labels texts bars xs numbers) (sid_at assets col) c (pos s) (pos d)) + n) (rows-same c d ss)
        ∙ sym (sum_by-cons (λ s. step_count (effects (world_of days assets labels texts bars xs numbers) (sid_at assets col) c (pos s) (pos d))) s ss)

  assets-same : (c : Column) (d first rows : ℕ) (cols : List ℕ) → All (λ col. col < length assets) cols
      → sum_by (λ a. sum_by (λ s. step_count (effects (column_world days bars xs) a c (pos s) (pos d))) (range_with_len first rows)) cols
      ≡ applied_in (world_of days assets labels texts bars xs numbers) c first rows (map (sid_at assets) cols) d
  assets-same c d first rows [] inside = refl
  assets-same c d first rows (col ∷ cols) inside =
      let F : ℕ → ℕ = λ a. sum_by (λ s. step_count (effects (column_world days bars xs) a c (pos s) (pos d))) (range_with_len first rows) in
      let G : ℕ → ℕ = λ a. sum_by (λ s. step_count (effects (world_of days assets labels texts bars xs numbers) a c (pos s) (pos d))) (range_with_len first rows) in
      sum_by-cons F col cols
      ∙ ap (λ n. n + sum_by F cols) (rows-same col (inside 0 0 (omega arith)) c d (range_with_len first rows))
      ∙ ap (λ n. G (sid_at assets col) + n) (assets-same c d first rows cols (λ k e l. inside (suc k) e (omega arith)))
      ∙ sym (sum_by-cons G (sid_at assets col) (map (sid_at assets) cols))

pub counts_are_of_the_world : CountsAreOfTheWorld
counts_are_of_the_world b assets labels texts numbers made inside d =
    assets-same b.days assets labels texts b.bars b.adjustments numbers made b.column d b.first b.rows b.cols inside

pub whole_counts : WholeCountsAreOfTheWorld
whole_counts b assets labels texts numbers made inside = counts_are_of_the_world b assets labels texts numbers made inside (b.first + b.rows)
