-- The life of an asset is one stretch of sessions.
use Rattle.std.proofs.Common.{◌≡◌, ℕ, ◌+◌, ◌-◌, ◌<◌, ◌≤◌, true, ℤ, pos, ◌≤ℤ◌, ◌<ℤ◌, List, length, get_or, option_map, None, refl, sym, ◌∙◌, ap, arith, inl, inr, AllPairs}
use Rattle.std.specs.Int.RustNames.{int_lt, int_le}
use Rattle.std.proofs.lemmas.Bool.{cases_lt}
use Rattle.std.proofs.lemmas.Int.{ints}
use Rattle.std.proofs.lemmas.Option.{slice_get-get_or}
use Rattle.pl_spec.specs.declared.AssetRow.{AssetRow}
use Rattle.pl_spec.specs.Parts.{sid_at}
use Rattle.pl_spec.specs.World.{World, exists, lives_on}
use Rattle.pl_spec.proofs.Columns.{no_asset}
use Rattle.pl_cross.specs.Arrays.{sid_in}
use Rattle.pl_values.specs.Arrays.{is_kept}
use Rattle.pl_world.proofs.Lifetimes.{exists-at}
use Rattle.pl_exec.specs.declared.course.Course.{Course}
use Rattle.pl_exec.specs.Tasks.{assets_in, sids_in}
use Rattle.pl_exec.specs.ChunkInputs.{IsCourse, IsMaskLent, node_in, task_in}
use Rattle.pl_exec.proofs.Courses.{unmasked}
use Rattle.pl_exec.proofs.Places.{sid_of_place}

-- who lives on two days lives on each between
between : (r : AssetRow) (a d b : ℤ) → a ≤ℤ d → d ≤ℤ b → lives_on a r ≡ true → lives_on b r ≡ true → lives_on d r ≡ true
between r a d b low high p q =
    let begun : int_lt r.start a ≡ true = grind (p, arith) in
    let lasts : int_le b r.end ≡ true = grind (q, arith) in
    let x : int_lt r.start d ≡ true = grind (arith, ints) in
    let y : int_le d r.end ≡ true = grind (arith, ints) in
    rw (x, y) refl

rises : (days : List ℤ) → AllPairs (λ a b. a <ℤ b) days → (s d : ℕ) → s ≤ d → d < length days → get_or days s (pos 0) ≤ℤ get_or days d (pos 0)
rises days up s d h inside = elim (cases_lt s d) [
  | inl p ↦ (let q = up s d (pos 0) p inside in omega (arith, ints, q))
  | inr p ↦ (let same : s ≡ d = omega (arith, h, p) in rw same (omega (arith, ints)))
]

module _ (w : World) (up : AllPairs (λ x y. x.sid < y.sid) w.assets) (days : AllPairs (λ a b. a <ℤ b) w.days) (col : ℕ) (inside : col < length w.assets) where
  lives_is : (s : ℕ) → s < length w.days → exists w (sid_at w.assets col) (pos s) ≡ lives_on (get_or w.days s (pos 0)) (get_or w.assets col no_asset)
  lives_is s h =
      exists-at w col s (get_or w.days s (pos 0)) (lives_on (get_or w.days s (pos 0)) (get_or w.assets col no_asset)) up (slice_get-get_or w.days s (pos 0) h)
      (ap (option_map (lives_on (get_or w.days s (pos 0)))) (slice_get-get_or w.assets col no_asset inside))

  lives_between : (a s b : ℕ) → a ≤ s → s ≤ b → b < length w.days → exists w (sid_at w.assets col) (pos a) ≡ true → exists w (sid_at w.assets col) (pos b) ≡ true → exists w (sid_at w.assets col) (pos s) ≡ true
  lives_between a s b low high within p q =
      lives_is s (omega (arith, high, within))
      ∙ between (get_or w.assets col no_asset) (get_or w.days a (pos 0)) (get_or w.days s (pos 0)) (get_or w.days b (pos 0))
      (rises w.days days a s low (omega (arith, high, within))) (rises w.days days s b high within)
      (sym (lives_is a (omega (arith, low, high, within))) ∙ p) (sym (lives_is b within) ∙ q)

-- who exists on the first and on the last session of a course is kept on all, where there is no mask
pub kept_throughout : (c : Course) → IsCourse c → (i : ℕ) → i < assets_in (task_in c) → IsMaskLent (task_in c) (node_in c).mask None
    → exists (task_in c).world (sid_in (sids_in (task_in c)) i) (pos (c.low + 0)) ≡ true → exists (task_in c).world (sid_in (sids_in (task_in c)) i) (pos (c.low + (c.count - 1))) ≡ true
    → (j : ℕ) → j < c.count → is_kept (task_in c).world (task_in c).pipeline (sids_in (task_in c)) (node_in c).mask i (c.low + j) ≡ true
kept_throughout c is i asset lent first last j h =
    let w = (task_in c).world in
    let parts = is.chunk.made.parts in
    let sid = sid_of_place c.chunk.now.world.assets.now c.chunk.now.cols.now i asset in
    let plan = is.chunk.task.plan.within in
    let to = is.chunk.task.to in
    let end = is.end in
    ap (λ m. is_kept w (task_in c).pipeline (sids_in (task_in c)) m i (c.low + j)) (unmasked (task_in c) (node_in c).mask lent)
    ∙ ap (λ a. exists w a (pos (c.low + j))) sid
    ∙ lives_between w parts.sids_ascend parts.days_ascend (get_or c.chunk.now.cols.now i 0) (is.chunk.task.columns.within i 0 asset) (c.low + 0) (c.low + j) (c.low + (c.count - 1))
    (omega arith) (omega (arith, h)) (omega (arith, plan, to, end, h))
    (sym (ap (λ a. exists w a (pos (c.low + 0))) sid) ∙ first) (sym (ap (λ a. exists w a (pos (c.low + (c.count - 1)))) sid) ∙ last)
