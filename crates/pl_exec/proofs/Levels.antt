-- The slot of one bar column, while the rest of a term is computed.
use Rattle.std.proofs.Common.{◌≡◌, ℕ, zero, suc, ◌+◌, ◌*◌, ◌<◌, ◌≤◌, Bool, true, false, List, ◌++◌, length, take, drop, sum_by, Option, Some, None, slice_get, get_or, refl, sym, ◌∙◌, ap, subst, arith, ◌⊎◌, inl, inr, ℤ}
use Rattle.std.specs.List.{list_all}
use Rattle.std.proofs.lemmas.Int.{ints}
use Rattle.std.proofs.lemmas.List.{append-nil, drop_all, take_all}
use Rattle.pl_spec.specs.declared.Column.{Column}
use Rattle.pl_spec.specs.World.{column_number}
use Rattle.pl_pipeline.specs.Kind as kind
use Rattle.pl_pipeline.specs.Kind.{Kind}
use Rattle.pl_pipeline.specs.Term as spec
use Rattle.pl_pipeline.specs.Term.Input.{BarColumn, TermInput}
use Rattle.pl_pipeline.specs.Graph.{columns_at, contains}
use Rattle.pl_spec.specs.Window.{applied_steps}
use Rattle.pl_laws.specs.LowLaws.{HasBar}
use Rattle.pl_terms.specs.Sorts.{is_windowed, places}
use Rattle.pl_values.proofs.Operations.{all-at}
use Rattle.pl_values.proofs.Typed.{fit-at, no_column, no-takes, points-free, crosses-free}
use Rattle.pl_planner.specs.Plans.{column_slot}
use Rattle.pl_planner.proofs.Pipelines.{is-pipeline}
use Rattle.pl_workspace.specs.Slots.{Slots, Free, Begun, Live, slot_at, with_slot, live_count}
use Rattle.pl_exec.specs.declared.chunk_inputs.ChunkInputs.{ChunkInputs}
use Rattle.pl_exec.specs.declared.compute.Filled.{Filled}
use Rattle.pl_exec.specs.declared.compute.Term.{Term}
use Rattle.pl_exec.specs.Filling.{HaveRows, IsFilled, new_from, node_for, task_for}
use Rattle.pl_exec.specs.Tasks.{Task, assets_in, columns_of, columns_of_term, first_row, graph_in, row_count, sids_in, term_steps}
use Rattle.pl_exec.specs.ChunkInputs.{AreFree, HasRows, IsColumnRun, AreChunkInputs, IsRun, columns_before, new_before, new_column, one_new, task_of, unless}
use Rattle.pl_exec.proofs.Mentions.{run_still, free_still, asked}
use Rattle.pl_exec.proofs.NewColumns.{columns_few, columns_count, columns_sum, part}
use Rattle.pl_exec.proofs.Trips.{now_used, now_peak, there, long, trip_slots, trip_peak}

-- ---- how many places have a new column

pub before_next : (n : spec.Node) (p : ℕ) → new_before n (p + 1) ≡ new_before n p + one_new (new_column n p)
before_next n p = let e : p + 1 ≡ suc p = omega arith in ap (new_before n) e

before_all : (n : spec.Node) (p : ℕ) → p < 3 → new_before n p + one_new (new_column n p) ≤ new_before n 3
before_all n zero h = omega arith
before_all n (suc zero) h = omega arith
before_all n (suc (suc zero)) h = omega arith
before_all n (suc (suc (suc p))) h = absurd (omega arith)

-- from the last place on there is none
pub from_end : (n : spec.Node) (p : ℕ) → p ≡ 3 → 0 ≡ new_from n p
from_end n p e = let z : 0 ≡ new_from n 3 = omega arith in z ∙ ap (new_from n) (sym e)

pub from_none : (n : spec.Node) (p : ℕ) → one_new (new_column n p) ≡ 0 → new_from n (p + 1) ≡ new_from n p
from_none n p e = let s = before_next n p in omega (arith, s, e)

pub from_one : (n : spec.Node) (p : ℕ) → p < 3 → one_new (new_column n p) ≡ 1 → new_from n p ≡ 1 + new_from n (p + 1)
from_one n p h e = let s = before_next n p in let a = before_all n p h in omega (arith, s, a, e)

pub columns_are : (j : ChunkInputs) → AreChunkInputs j → (k : ℕ) (n : spec.Node) → slice_get (graph_in (task_of j)) k ≡ Some n → columns_at (graph_in (task_of j)) k ≡ new_before n 3
columns_are j chunk k n node = let c = columns_count (graph_in (task_of j)) k n node (chunk.task.checked.graph.few k n node) in omega (arith, c)

-- ---- the cells of one place more

no_rows : (t : Task) (k : ℕ) (n : spec.Node) (p : ℕ) (cells : List ℤ) → one_new (new_column n p) ≡ 0 → HasRows t k n p cells
no_rows t k n p cells e some = here (new_column n p) refl
  where
    here : (o : Option Column) → new_column n p ≡ o → assets_in t * row_count t k ≤ length cells
    here None f = absurd (some f)
    here (Some c) f = absurd (let one : one_new (new_column n p) ≡ 1 = ap one_new f in omega arith)

pub rows_begin : (t : Term) (a b c : List ℤ) → HaveRows t 0 a b c
rows_begin t a b c = record { first = λ q e. absurd (omega arith); second = λ q e. absurd (omega arith); third = λ q e. absurd (omega arith) }

module _ (t : Term) (p : ℕ) (a b c d : List ℤ) (rows : HaveRows t p a b c) where
  shift : HasRows (task_for t) t.id.0 (node_for t) p d → HaveRows t (p + 1) b c d
  shift h = record {
    first = λ q e. rows.second q (omega arith);
    second = λ q e. rows.third q (omega arith);
    third = λ q e. let s : p ≡ q = omega arith in subst (λ x. HasRows (task_for t) t.id.0 (node_for t) x d) s h;
  }

  pub rows_none : one_new (new_column (node_for t) p) ≡ 0 → HaveRows t (p + 1) b c d
  rows_none e = shift (no_rows (task_for t) t.id.0 (node_for t) p d e)

  pub rows_one : assets_in (task_for t) * row_count (task_for t) t.id.0 ≤ length d → HaveRows t (p + 1) b c d
  rows_one long = shift (λ some. long)

-- ---- the slot of the new column of a place

module _ (j : ChunkInputs) (w : Slots) (k : ℕ) (n : spec.Node) (run : IsColumnRun j w k n) (p : ℕ) (place : p < 3) (one : one_new (new_column n p) ≡ 1) where
  abbrev i : ℕ
  i = new_before n p

  few : columns_at (graph_in (task_of j)) k ≤ 3
  few = columns_few (graph_in (task_of j)) k n run.node (run.chunk.task.checked.graph.few k n run.node)

  below : i < columns_at (graph_in (task_of j)) k
  below = let c = columns_are j run.chunk k n run.node in let a = before_all n p place in omega (arith, c, a, one)

  pub below_three : i < 3
  below_three = let a = below in let b = few in omega (arith, a, b)

  module _ (free : AreFree (task_of j) w k i) (s : ℕ) (slot : s ≡ column_slot j.plan.now k i) where
    pub slot_free : slot_at w s ≡ Free
    slot_free = ap (slot_at w) slot ∙ (free i (omega arith) below).1

    slot_in : s < length w.slots
    slot_in = let f = (free i (omega arith) below).0 in omega arith

    module _ (w1 : Slots) (begun : w1 ≡ with_slot w s Begun) where
      pub run_next : IsColumnRun j w1 k n
      run_next = record { chunk = run.chunk; run = run_still (task_of j) run.chunk.task w w1 k s run.run slot_free begun; node = run.node; kind = run.kind; some = run.some; deep = run.deep }

      pub free_next : AreFree (task_of j) w1 k (new_before n (p + 1))
      free_next =
          let e : i + 1 ≡ new_before n (p + 1) = (let b = before_next n p in omega (arith, b, one)) in
          subst (AreFree (task_of j) w1 k) e (free_still (task_of j) run.chunk.task w w1 k i run.run.used few below free (begun ∙ ap (λ x. with_slot w x Begun) slot))

      live_next : live_count w1.slots ≡ live_count w.slots + 1
      live_next = let u = now_used w w1 s Begun Free begun slot_free slot_in in omega arith

      pub counted_next : live_count w1.slots ≤ w1.peak
      counted_next = let p = now_peak w w1 s Begun Free begun slot_free slot_in in omega arith

      -- while later places were computed, others came and went
      module _ (w2 : Slots) (own : List ℤ) (before after : ℕ) (f : Filled) (filled : IsFilled (task_of j) k (new_from n (p + 1)) w1 w2 own before after f) where
        in_second : s < length w2.slots
        in_second = let a : length w2.slots ≡ length w1.slots = ap (λ l. length l) filled.slots in let b = long w w1 s Begun begun in let c = slot_in in omega arith

        pub finish_in : (s < length w2.slots) × (slot_at w2 s ≡ Begun)
        finish_in = (in_second, ap (λ l. get_or l s Begun) filled.slots ∙ there w w1 s Begun begun slot_in)

        module _ (w3 : Slots) (cells : List ℤ) (finished : w3 ≡ with_slot w2 s (Live cells)) where
          pub is_live : slot_at w3 s ≡ Live cells
          is_live = there w2 w3 s (Live cells) finished in_second

          pub filled_back : (w4 : Slots) → w4 ≡ with_slot w3 s Free → IsFilled (task_of j) k (new_from n p) w w4 own before after f
          filled_back w4 released = record {
            array = filled.array;
            slots = trip_slots w w1 w2 w3 s (new_from n (p + 1)) cells slot_free slot_in begun filled.slots filled.peak finished w4 released;
            len = ap (λ (x : Slots). x.len) released ∙ ap (λ (x : Slots). x.len) finished ∙ filled.len ∙ ap (λ (x : Slots). x.len) begun;
            peak = (let t = trip_peak w w1 w2 w3 s (new_from n (p + 1)) cells slot_free slot_in begun filled.slots filled.peak finished w4 released in let o = from_one n p place one in omega (arith, t, o));
            held = (let l = live_next in let o = from_one n p place one in let h = filled.held in omega (arith, l, o, h));
            cost = filled.cost;
            applied = filled.applied;
          }

-- ---- the same with equal parts

pub filled_as : (t : Task) (k a b : ℕ) (w v : Slots) (x y : List ℤ) (from to : ℕ) (f : Filled) → a ≡ b → x ≡ y → IsFilled t k a w v x from to f → IsFilled t k b w v y from to f
filled_as t k a b w v x y from to f e g is = subst (λ l. IsFilled t k b w v l from to f) g (subst (λ m. IsFilled t k m w v x from to f) e is)

-- a list that was written whole
pub whole_written : (old new : List ℤ) → length new ≡ length old → take (length old) (new ++ drop (length new) old) ≡ new
whole_written old new e = ap (λ l. take (length old) (new ++ l)) (drop_all (length new) old (omega (arith, e))) ∙ ap (take (length old)) (append-nil new) ∙ take_all (length old) new (omega (arith, e))

-- ---- only formulas over windows read bar columns

kinds_free : (k : Kind) → (is_windowed k ≡ true) ⊎ (list_all no_column (places k) ≡ true)
unfolding places
kinds_free (kind.Window f) = inl refl
kinds_free (kind.Point f) = inr (points-free f)
kinds_free (kind.Cross f) = inr (crosses-free f)
kinds_free k = inr refl

module _ (j : ChunkInputs) (chunk : AreChunkInputs j) (k : ℕ) (n : spec.Node) (node : slice_get (graph_in (task_of j)) k ≡ Some n) where
  bar_windowed : (p : ℕ) (c : Column) → slice_get n.inputs p ≡ Some (BarColumn c) → is_windowed n.kind ≡ true
  bar_windowed p c e = elim (kinds_free n.kind) [
    | inl w ↦ w
    | inr f ↦ (let x = fit-at (graph_in (task_of j)) (places n.kind) n.inputs p (BarColumn c) (chunk.task.checked.nodes k n node).inputs e in absurd
        (no-takes x.0 c (all-at no_column (places n.kind) p x.0 f x.1) x.2))
  ]

  new_bar : (p : ℕ) (c : Column) → new_column n p ≡ Some c → slice_get n.inputs p ≡ Some (BarColumn c)
  new_bar p c e = here (slice_get n.inputs p) refl
    where
      here : (o : Option spec.Input) → slice_get n.inputs p ≡ o → slice_get n.inputs p ≡ Some (BarColumn c)
      here None f = absurd (let z : None ≡ Some c = (rw f at e) in cc)
      here (Some (TermInput u)) f = absurd (let z : None ≡ Some c = (rw f at e) in cc)
      here (Some (BarColumn d)) f = f ∙ again (contains (columns_before n p) (column_number d)) (rw f at e)
        where
          again : (b : Bool) → unless b d ≡ Some c → Some (BarColumn d) ≡ Some (BarColumn c)
          again true z = absurd (let y : None ≡ Some c = z in cc)
          again false z = let s : d ≡ c = cc in ap (λ x. Some (BarColumn x)) s

  pub has_bar : 0 < new_before n 3 → HasBar n
  has_bar h = here (new_column n 0) refl (new_column n 1) refl (new_column n 2) refl
    where
      here : (a : Option Column) → new_column n 0 ≡ a → (b : Option Column) → new_column n 1 ≡ b → (c : Option Column) → new_column n 2 ≡ c → HasBar n
      here (Some x) e b f c g = (0, x, new_bar 0 x e)
      here None e (Some x) f c g = (1, x, new_bar 1 x f)
      here None e None f (Some x) g = (2, x, new_bar 2 x g)
      here None e None f None g = absurd (let a : one_new (new_column n 0) ≡ 0 = ap one_new e in let b : one_new (new_column n 1) ≡ 0 = ap one_new f in let c : one_new (new_column n 2) ≡ 0 = ap one_new g in omega arith)

  pub column_run : (w : Slots) → IsRun (task_of j) w k → 0 < new_before n 3 → IsColumnRun j w k n
  column_run w run h =
      let b = has_bar h in
      record {
        chunk = chunk;
        run = run;
        node = node;
        kind = bar_windowed b.0 b.1 b.2;
        some = ((is-pipeline (task_of j).pipeline chunk.task.checked).windows k n node).0;
        deep = (let d = chunk.task.plan.lows.bars k j.from n (asked (task_of j) chunk.task k run.used) node b in let r = chunk.task.plan.early in omega (arith, ints, d, r));
      }

  pub count_is : columns_at (graph_in (task_of j)) k ≡ new_before n 3
  count_is = columns_are j chunk k n node

  none_part : (f : Column → ℕ) (o : Option Column) → one_new o ≡ 0 → part f o ≡ 0
  none_part f None e = refl
  none_part f (Some c) e = absurd (omega arith)

  pub no_steps : new_before n 3 ≡ 0 → term_steps (task_of j) k ≡ 0
  unfolding term_steps
  no_steps e =
      let f : Column → ℕ = λ c. applied_steps (task_of j).world c (first_row (task_of j) k) (row_count (task_of j) k) (sids_in (task_of j)) in
      let s = columns_sum n (λ c. applied_steps (task_of j).world c (first_row (task_of j) k) (row_count (task_of j) k) (sids_in (task_of j))) (chunk.task.checked.graph.few k n node) in
      let t : sum_by (λ c. applied_steps (task_of j).world c (first_row (task_of j) k) (row_count (task_of j) k) (sids_in (task_of j))) (columns_of_term (graph_in (task_of j)) k) ≡ sum_by (λ c. applied_steps (task_of j).world c (first_row (task_of j) k) (row_count (task_of j) k) (sids_in (task_of j))) (columns_of n) = rw node refl in
      let a = none_part (λ c. applied_steps (task_of j).world c (first_row (task_of j) k) (row_count (task_of j) k) (sids_in (task_of j))) (new_column n 0) (omega arith) in
      let b = none_part (λ c. applied_steps (task_of j).world c (first_row (task_of j) k) (row_count (task_of j) k) (sids_in (task_of j))) (new_column n 1) (omega arith) in
      let c = none_part (λ c. applied_steps (task_of j).world c (first_row (task_of j) k) (row_count (task_of j) k) (sids_in (task_of j))) (new_column n 2) (omega arith) in
      t ∙ s ∙ omega (arith, a, b, c)
