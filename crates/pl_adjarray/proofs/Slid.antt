-- A buffer whose first assets were brought to a later day.
use Rattle.std.proofs.Common.{◌≡◌, ℕ, ◌+◌, ◌*◌, ◌<◌, ◌≤◌, ℤ, List, length, get_or, take, sum_by, subst, slice_get, Some, refl, sym, ◌∙◌, ap, arith, inl, inr}
use Rattle.std.proofs.lemmas.Bool.{cases_lt}
use Rattle.std.proofs.lemmas.List.Sums.{sum_by_more}
use Rattle.pl_spec.specs.World.{events_of}
use Rattle.pl_spec.specs.Window.{Effect, after_all, effects_in, step_count}
use Rattle.pl_adjarray.specs.Buffered.{Buffered, HasCells, cell_at, col_at, ratio_count, world_of}
use Rattle.pl_spec.specs.Rounding.{IsCell}
use Rattle.pl_spec.specs.Limits.{saturated}
use Rattle.pl_spec.proofs.Places.{row-within}
use Rattle.pl_adjarray.proofs.Places.{row_behind}

-- the first n assets are at the later day
pub record AreSlid (b : Buffered) (shown : ℕ) (from to : ℤ) (n : ℕ) (old new : List ℤ) (steps_old steps applied_old applied : ℕ) : Type 0 where
  pub moved : (bar : ℤ) (i j : ℕ) → i < n → j < shown → slice_get b.days (b.first + j) ≡ Some bar → cell_at new (i * b.rows + j) ≡ after_all (cell_at old (i * b.rows + j)) (effects_in b.column bar from to (events_of (world_of b) (col_at b i)))
  pub kept : (i j : ℕ) → i < n → shown ≤ j → j < b.rows → cell_at new (i * b.rows + j) ≡ cell_at old (i * b.rows + j)
  pub rest : (k : ℕ) → n * b.rows ≤ k → cell_at new k ≡ cell_at old k
  pub cells : HasCells b new
  pub cost : (bar : ℤ) → steps ≡ steps_old + shown * sum_by (ratio_count b bar from to) (take n b.cols)
  pub tally : (bar : ℤ) → saturated applied ≡ saturated (applied_old + shown * sum_by (ratio_count b bar from to) (take n b.cols))

add_cut : (x y z k s t m : ℕ) → t ≡ s + m → saturated y ≡ saturated (x + k * s) → saturated z ≡ saturated (y + k * m) → saturated z ≡ saturated (x + k * t)
add_cut x y z k s t m e f g = rw e (omega arith)

add_cost : (x y z k s t m : ℕ) → t ≡ s + m → y ≡ x + k * s → z ≡ y + k * m → z ≡ x + k * t
add_cost x y z k s t m e f g = rw e (omega arith)

-- nothing is slid yet
pub slid_none : (b : Buffered) (shown : ℕ) (from to : ℤ) (cells : List ℤ) (steps applied : ℕ) → HasCells b cells → AreSlid b shown from to 0 cells cells steps steps applied applied
slid_none b shown from to cells steps applied has_cells = record {
  moved = λ bar i j h k day. absurd (omega arith);
  kept = λ i j h k m. absurd (omega arith);
  rest = λ k h. refl;
  cells = has_cells;
  cost = λ bar. omega arith;
  tally = λ bar. ap saturated (omega arith);
}

-- the rows of asset n were changed by the effects es on the bars of their days, and no other rows
pub record IsOneSlid (b : Buffered) (shown n : ℕ) (mid new : List ℤ) (es : ℤ → List Effect) : Type 0 where
  pub moved : (bar : ℤ) (j : ℕ) → j < shown → slice_get b.days (b.first + j) ≡ Some bar → cell_at new (n * b.rows + j) ≡ after_all (cell_at mid (n * b.rows + j)) (es bar)
  pub before : (k : ℕ) → k < n * b.rows → cell_at new k ≡ cell_at mid k
  pub behind : (k : ℕ) → n * b.rows + shown ≤ k → cell_at new k ≡ cell_at mid k
  pub cells : (j : ℕ) → j < shown → IsCell (cell_at new (n * b.rows + j))

module _ (b : Buffered) (shown n : ℕ) (mid new : List ℤ) (es : ℤ → List Effect) (few : shown ≤ b.rows) (one : IsOneSlid b shown n mid new es) where
  cells_more : HasCells b mid → HasCells b new
  cells_more cells i j h k = elim (cases_lt i n) [
    | inl p ↦ subst IsCell (sym (one.before (i * b.rows + j) (row-within i n b.rows j p k))) (cells i j h k)
    | inr p ↦ elim (cases_lt n i) [
      | inl q ↦ subst IsCell (sym (one.behind (i * b.rows + j) (row_behind n i j b.rows shown q few))) (cells i j h k)
      | inr q ↦ (let same : i ≡ n = omega arith in elim (cases_lt j shown) [
        | inl r ↦ subst (λ m. IsCell (cell_at new (m * b.rows + j))) (sym same) (one.cells j r)
        | inr r ↦ subst IsCell (sym (one.behind (i * b.rows + j) (rw same (omega arith)))) (cells i j h k)
      ])
    ]
  ]

  -- one asset more
  pub slid_more : (from to : ℤ) (old : List ℤ) (s0 s1 s2 t0 t1 t2 : ℕ)
      → n < length b.cols → ((bar : ℤ) → es bar ≡ effects_in b.column bar from to (events_of (world_of b) (col_at b n)))
      → AreSlid b shown from to n old mid s0 s1 t0 t1
      → ((bar : ℤ) → s2 ≡ s1 + shown * step_count (es bar)) → ((bar : ℤ) → saturated t2 ≡ saturated (t1 + shown * step_count (es bar)))
      → AreSlid b shown from to (n + 1) old new s0 s2 t0 t2
  slid_more from to old s0 s1 s2 t0 t1 t2 in_cols own so_far cost tally =
      let more : (bar : ℤ) → sum_by (ratio_count b bar from to) (take (n + 1) b.cols) ≡ sum_by (ratio_count b bar from to) (take n b.cols) + ratio_count b bar from to (get_or b.cols n 0) = λ bar. sum_by_more (ratio_count b bar from to) b.cols n 0 in_cols in
      record {
        moved = λ bar i j h k day. elim (cases_lt i n) [
          | inl p ↦ one.before (i * b.rows + j) (row-within i n b.rows j p (omega arith)) ∙ so_far.moved bar i j p k day
          | inr p ↦ (let same : i ≡ n = omega arith in
              rw same (one.moved bar j k day
              ∙ ap (λ x. after_all x (es bar)) (so_far.rest (n * b.rows + j) (omega arith))
              ∙ ap (after_all (cell_at old (n * b.rows + j))) (own bar)))
        ];
        kept = λ i j h k m. elim (cases_lt i n) [
          | inl p ↦ one.before (i * b.rows + j) (row-within i n b.rows j p m) ∙ so_far.kept i j p k m
          | inr p ↦ (let same : i ≡ n = omega arith in
              rw same (one.behind (n * b.rows + j) (omega arith) ∙ so_far.rest (n * b.rows + j) (omega arith)))
        ];
        rest = λ k h. one.behind k (omega arith) ∙ so_far.rest k (omega arith);
        cells = cells_more so_far.cells;
        cost = λ bar. add_cost s0 s1 s2 shown _ _ _ (more bar) (so_far.cost bar) (rw (own bar) at (cost bar));
        tally = λ bar. add_cut t0 t1 t2 shown _ _ _ (more bar) (so_far.tally bar) (rw (own bar) at (tally bar));
      }
