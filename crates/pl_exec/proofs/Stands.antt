-- Where the traversals of a term stand, and what they count.
use Rattle.std.proofs.Common.{◌≡◌, ℕ, zero, suc, ◌+◌, ◌-◌, ◌<◌, ◌≤◌, false, sum_by, List, [], ◌∷◌, ◌++◌, length, take, get_or, Option, Some, None, refl, sym, ◌∙◌, ap, subst, arith, ◌==◌, eq-eqb}
use Rattle.std.proofs.lemmas.Bool.Decides.{nat_tests}
use Rattle.std.proofs.lemmas.List.{take_more}
use Rattle.std.proofs.lemmas.List.Sums.{fold-append}
use Rattle.pl_spec.specs.declared.Column.{Column}
use Rattle.pl_spec.specs.Window.{applied_steps}
use Rattle.pl_pipeline.specs.Term as spec
use Rattle.pl_spec.specs.Limits.{saturated}
use Rattle.pl_adjarray.specs.Buffered.{Buffered, applied_at, row_count as applied_row}
use Rattle.pl_adjarray.specs.Traversals.{Traversal, advances}
use Rattle.pl_adjarray.proofs.Worlds.{whole_counts}
use Rattle.pl_exec.specs.declared.chunk_inputs.ChunkInputs.{ChunkInputs}
use Rattle.pl_exec.specs.declared.windows.Bars.{Bars}
use Rattle.pl_exec.specs.Tasks.{first_row, row_count, count_in, graph_in, low_in, sids_in, term_steps, columns_of, columns_of_term, window_of_term}
use Rattle.pl_exec.specs.ChunkInputs.{AreBars, AreMoved, GoOn, GoesOn, HasBarsAt, HasBegun, HaveBegun, IsColumnRun, advanced, buffer_at, buffer_for, buffered, counted, new_column, one_col, passed, session_reached, steps_at, steps_of, task_of, traversal_at}
use Rattle.pl_workspace.specs.Slots.{Slots}
use Rattle.pl_exec.proofs.NewColumns.{part, columns_sum}

not_first : (a b : ℕ) → a < b → (b == a) ≡ false
not_first a b h = grind (arith, nat_tests)

stand_advances : (b : Buffered) (size m : ℕ) → 1 ≤ size → advances (record { array = b; window = size; session = session_reached b size m }) ≡ m
stand_advances b size zero h = rw (eq-eqb b.first b.first refl) refl
stand_advances b size (suc i) h = let e = not_first b.first (b.first + size + i) (omega arith) in rw e (let r : b.first + size + i + 1 - (b.first + size) ≡ suc i = omega arith in r)

module _ (j : ChunkInputs) (w : Slots) (k : ℕ) (n : spec.Node) (run : IsColumnRun j w k n) (cols : List ℕ) where
  window_is : window_of_term (graph_in (task_of j)) k ≡ n.window
  window_is = rw run.node refl

  rows_of : (o : Option Column) → (buffer_for j k cols o).rows ≡ row_count (task_of j) k
  rows_of None = refl
  rows_of (Some c) = refl

  first_of : (o : Option Column) → (buffer_for j k cols o).first ≡ first_row (task_of j) k
  first_of None = refl
  first_of (Some c) = refl

  some_count : 1 ≤ count_in (task_of j) k
  some_count =
      let l = (run.chunk.task.plan.lows.few k j.from (run.run.used, (run.chunk.task.from, (let a = run.chunk.task.order in let b = run.chunk.task.to in omega arith)))).0 in
      let o = run.chunk.task.order in omega arith

  stands_on : (p m : ℕ) → m < count_in (task_of j) k → (v : Traversal) → v ≡ traversal_at j k n cols p m → GoesOn v
  stands_on p m h v e =
      let r = rows_of (new_column n p) in let s = window_is in let a = stand_advances (buffer_at j k n cols p) n.window m run.some in
      subst GoesOn (sym e) (let c = some_count in omega arith)

  stands_next : (p m : ℕ) (v u : Traversal) → v ≡ traversal_at j k n cols p m → u ≡ advanced v → u ≡ traversal_at j k n cols p (suc m)
  stands_next p m v u e f =
      f ∙ ap advanced e ∙ ap (λ i. record { array = buffer_at j k n cols p; window = n.window; session = (buffer_at j k n cols p).first + n.window + i }) (stand_advances (buffer_at j k n cols p) n.window m run.some)

  pub bars_go_on : (m : ℕ) → m < count_in (task_of j) k → (b : Bars) → AreBars j k n cols m b → GoOn b
  bars_go_on m h b are = record { first = stands_on 0 m h b.first are.first; second = stands_on 1 m h b.second are.second; third = stands_on 2 m h b.third are.third }

  pub bars_next : (m : ℕ) (b c : Bars) → AreBars j k n cols m b → AreMoved advanced b c → AreBars j k n cols (suc m) c
  bars_next m b c are to = record { first = stands_next 0 m b.first c.first are.first to.first; second = stands_next 1 m b.second c.second are.second to.second; third = stands_next 2 m b.third c.third are.third to.third }

  -- after one advance the traversals have begun, and go on by sessions on which nothing changes
  has_begun : (p m : ℕ) (v : Traversal) → v ≡ traversal_at j k n cols p (suc m) → HasBegun v
  has_begun p m v e = subst HasBegun (sym e) (omega arith)

  pub bars_begun : (m : ℕ) (b : Bars) → AreBars j k n cols (suc m) b → HaveBegun b
  bars_begun m b are = record { first = has_begun 0 m b.first are.first; second = has_begun 1 m b.second are.second; third = has_begun 2 m b.third are.third }

  stands_later : (p m more : ℕ) (v u : Traversal) → v ≡ traversal_at j k n cols p (suc m) → u ≡ passed v more → u ≡ traversal_at j k n cols p (m + more + 1)
  stands_later p m more v u e f =
      let s : (buffer_at j k n cols p).first + n.window + m + more ≡ (buffer_at j k n cols p).first + n.window + (m + more) = omega arith in
      let t : suc (m + more) ≡ m + more + 1 = omega arith in
      f ∙ ap (λ x. passed x more) e
      ∙ ap (λ x. record { array = buffer_at j k n cols p; window = n.window; session = x }) s
      ∙ ap (traversal_at j k n cols p) t

  pub bars_later : (m more : ℕ) (b c : Bars) → AreBars j k n cols (suc m) b → AreMoved (λ v. passed v more) b c → AreBars j k n cols (m + more + 1) c
  bars_later m more b c are to = record { first = stands_later 0 m more b.first c.first are.first to.first; second = stands_later 1 m more b.second c.second are.second to.second; third = stands_later 2 m more b.third c.third are.third to.third }

  pub bars_here : (m s : ℕ) (b : Bars) → AreBars j k n cols (suc m) b → s ≡ low_in (task_of j) k + m → HasBarsAt j k n cols s b
  bars_here m s b are e = record { advances = m; bars = are; at = e; deep = run.deep }

  -- ---- what is counted

  at_end : (p : ℕ) → session_reached (buffer_at j k n cols p) n.window (count_in (task_of j) k) ≡ first_row (task_of j) k + row_count (task_of j) k
  at_end p =
      let c = some_count in let r = first_of (new_column n p) in let s = window_is in
      let e : count_in (task_of j) k ≡ suc (count_in (task_of j) k - 1) = omega arith in
      ap (session_reached (buffer_at j k n cols p) n.window) e ∙ (let q : (buffer_at j k n cols p).first + n.window + (count_in (task_of j) k - 1) ≡ first_row (task_of j) k + row_count (task_of j) k = omega arith in q)

  ended : (p : ℕ) (v : Traversal) → v ≡ traversal_at j k n cols p (count_in (task_of j) k) → applied_at v.array v.session ≡ steps_at j k n cols p
  ended p v e = ap (λ (u : Traversal). applied_at u.array u.session) e ∙ ap (applied_at (buffer_at j k n cols p)) (at_end p)

  -- whole traversals
  pub counted_is : (b : Bars) → AreBars j k n cols (count_in (task_of j) k) b → counted b ≡ steps_of j k n cols
  counted_is b are =
      let a = ended 0 b.first are.first in
      let c = ended 1 b.second are.second in
      let d = ended 2 b.third are.third in
      omega (arith, a, c, d)

  -- the rows of the traversals
  pub window_few : (p : ℕ) → n.window ≤ (buffer_at j k n cols p).rows
  window_few p = let c = some_count in let r = rows_of (new_column n p) in let s = window_is in omega arith

-- ---- the steps of assets together

sum_more : (f : ℕ → ℕ) (xs : List ℕ) (i : ℕ) → i < length xs → sum_by f (take (i + 1) xs) ≡ sum_by f (take i xs) + sum_by f (get_or xs i 0 ∷ [])
sum_more f xs i h =
    let e = ap (sum_by f) (take_more xs i 0 h) in
    let a : sum_by f (take i xs ++ get_or xs i 0 ∷ []) ≡ sum_by f (take i xs) + f (get_or xs i 0) = fold-append (λ a x. a + f x) 0 (take i xs) (get_or xs i 0 ∷ []) in
    let o : sum_by f (get_or xs i 0 ∷ []) ≡ f (get_or xs i 0) = omega arith in
    omega (arith, e, a, o)

part_more : (j : ChunkInputs) (k i d : ℕ) → i < length j.cols.now → (o : Option Column)
    → applied_at (buffer_for j k (take (i + 1) j.cols.now) o) d ≡ applied_at (buffer_for j k (take i j.cols.now) o) d + applied_at (buffer_for j k (one_col j i) o) d
part_more j k i d h None = refl
part_more j k i d h (Some c) = sum_more (applied_row (buffered j k c []) d) j.cols.now i h

pub steps_more : (j : ChunkInputs) (k : ℕ) (n : spec.Node) (i : ℕ) → i < length j.cols.now
    → steps_of j k n (take (i + 1) j.cols.now) ≡ steps_of j k n (take i j.cols.now) + steps_of j k n (one_col j i)
steps_more j k n i h =
    let a = part_more j k i (first_row (task_of j) k + row_count (task_of j) k) h (new_column n 0) in
    let b = part_more j k i (first_row (task_of j) k + row_count (task_of j) k) h (new_column n 1) in
    let c = part_more j k i (first_row (task_of j) k + row_count (task_of j) k) h (new_column n 2) in
    omega (arith, a, b, c)

part_none : (j : ChunkInputs) (k d : ℕ) (o : Option Column) → applied_at (buffer_for j k [] o) d ≡ 0
part_none j k d None = refl
part_none j k d (Some c) = refl

pub steps_none : (j : ChunkInputs) (k : ℕ) (n : spec.Node) → steps_of j k n [] ≡ 0
steps_none j k n =
    let a = part_none j k (first_row (task_of j) k + row_count (task_of j) k) (new_column n 0) in
    let b = part_none j k (first_row (task_of j) k + row_count (task_of j) k) (new_column n 1) in
    let c = part_none j k (first_row (task_of j) k + row_count (task_of j) k) (new_column n 2) in
    omega (arith, a, b, c)

module _ (j : ChunkInputs) (w : Slots) (k : ℕ) (n : spec.Node) (run : IsColumnRun j w k n) where
  abbrev column_steps : Column → ℕ
  column_steps c = applied_steps (task_of j).world c (first_row (task_of j) k) (row_count (task_of j) k) (sids_in (task_of j))

  part_counted : (o : Option Column) → applied_at (buffer_for j k j.cols.now o) (first_row (task_of j) k + row_count (task_of j) k) ≡ part column_steps o
  part_counted None = refl
  part_counted (Some c) =
      whole_counts (buffered j k c j.cols.now) j.world.assets.now j.world.labels.now.rows j.world.labels.now.texts j.world.numbers.now.rows run.chunk.made.parts run.chunk.task.columns.within

  pub steps_all : steps_of j k n j.cols.now ≡ term_steps (task_of j) k
  unfolding term_steps
  steps_all =
      let a = part_counted (new_column n 0) in
      let c = part_counted (new_column n 1) in
      let d = part_counted (new_column n 2) in
      let few = run.chunk.task.checked.graph.few k n run.node in
      let s = columns_sum n column_steps few in
      let t : sum_by column_steps (columns_of_term (graph_in (task_of j)) k) ≡ sum_by column_steps (columns_of n) = rw run.node refl in
      omega (arith, a, c, d, s, t)

pub cut_two : (a b x y s : ℕ) → x ≡ saturated a → y ≡ saturated b → s ≡ saturated (x + y) → s ≡ saturated (a + b)
cut_two a b x y s e f g = omega (arith, e, f, g)
