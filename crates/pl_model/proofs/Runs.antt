-- Windows of cells as they are seen, and their steps, by session.
use Rattle.std.proofs.Common.{◌≡◌, ℕ, zero, suc, ◌+◌, ◌-◌, ◌≤◌, ℤ, pos, negsuc, List, [], map, sum_by, inl, inr, refl, sym, ◌∙◌, ap, arith, zero-add}
use Rattle.std.specs.List.{range_with_len}
use Rattle.std.proofs.lemmas.Bool.{cases_lt}
use Rattle.std.proofs.lemmas.Int.{ints}
use Rattle.std.proofs.lemmas.List.FromFn.{sum_by-map-range_with_len_more}
use Rattle.std.proofs.lemmas.List.Sums.{sum_by-cons}
use Rattle.pl_spec.specs.declared.Column.{Column}
use Rattle.pl_spec.specs.World.{World, day_of, events_of}
use Rattle.pl_spec.specs.Window.{before, downward, effects, seen_cell, step_count}
use Rattle.pl_spec.proofs.Windows.{before-pos, no-effects}
use Rattle.pl_model.specs.WindowSteps.{window_steps}

early-before : (d n : ℕ) → d ≤ n → before (pos d) (suc n) ≡ negsuc (n - d)
early-before d n h = omega (arith, ints)

-- before the first session there is nothing
early-effects : (w : World) (a : ℕ) (c : Column) (d v n : ℕ) → d ≤ n → effects w a c (before (pos d) (suc n)) (pos v) ≡ []
early-effects w a c d v n h = rw (early-before d n h) (no-effects c (day_of w (pos v)) (events_of w a))

module _ (w : World) (a : ℕ) (c : Column) (d v : ℕ) where
  -- the cells of n sessions from one on, as they are seen from v
  abbrev pub run : ℕ → ℕ → List ℤ
  run first n = map (λ s. seen_cell w a c (pos s) (pos v)) (range_with_len first n)

  abbrev pub steps_at : ℤ → ℕ
  steps_at s = step_count (effects w a c s (pos v))

  abbrev pub run_steps : ℕ → ℕ → ℕ
  run_steps first n = sum_by steps_at (map pos (range_with_len first n))

  abbrev ago : ℕ → ℕ
  ago n = step_count (effects w a c (before (pos d) (suc n)) (pos v))

  pub window-steps : (size : ℕ) → window_steps w c size a (pos d) (pos v) ≡ run_steps (d - size) (d - (d - size))
  window-steps zero = let none : d - (d - 0) ≡ 0 = omega arith in rw none refl
  window-steps (suc size) = elim (cases_lt size d) [
    | inl inside ↦
        let first : ago size ≡ steps_at (pos (d - suc size)) = ap steps_at (before-pos d (suc size) (omega arith)) in
        let next : d - size ≡ (d - suc size) + 1 = omega arith in
        let rest : d - (d - size) ≡ size = omega arith in
        let all : d - (d - suc size) ≡ suc size = omega arith in
        sum_by-cons ago size (downward size)
        ∙ ap (λ n. n + sum_by ago (downward size)) first
        ∙ ap (λ n. steps_at (pos (d - suc size)) + n) (window-steps size ∙ ap (run_steps (d - size)) rest ∙ ap (λ f. run_steps f size) next)
        ∙ sym (sum_by-cons steps_at (pos (d - suc size)) (map pos (range_with_len ((d - suc size) + 1) size)))
        ∙ ap (run_steps (d - suc size)) (sym all)
    | inr past ↦
        let first : d - suc size ≡ d - size = omega arith in
        let none : ago size ≡ 0 = ap step_count (early-effects w a c d v size past) in
        sum_by-cons ago size (downward size)
        ∙ ap (λ n. n + sum_by ago (downward size)) none
        ∙ zero-add (sum_by ago (downward size))
        ∙ window-steps size
        ∙ ap (λ f. run_steps f (d - f)) (sym first)
  ]

  pub steps_more : (first s : ℕ) → first ≤ s → run_steps first ((s + 1) - first) ≡ run_steps first (s - first) + step_count (effects w a c (pos s) (pos v))
  steps_more first s from =
      let at : first + (s - first) ≡ s = omega arith in
      let next : (s + 1) - first ≡ (s - first) + 1 = omega arith in
      ap (run_steps first) next ∙ sum_by-map-range_with_len_more steps_at pos first (s - first) s at

-- at the end of the window the steps are those of all its sessions
pub counted_all : (w : World) (a : ℕ) (c : Column) (d v size s now old : ℕ) → s ≡ d → now ≡ old + run_steps w a c d v (d - size) (s - (d - size)) → now ≡ old + window_steps w c size a (pos d) (pos v)
counted_all w a c d v size s now old end all = all ∙ ap (λ s. old + run_steps w a c d v (d - size) (s - (d - size))) end ∙ ap (λ n. old + n) (sym (window-steps w a c d v size))
