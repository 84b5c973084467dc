-- One term on all its sessions: its turns, the arrays that it reads there, and its cells asset by asset.
use Rattle.std.proofs.Common.{◌≡◌, ℕ, ◌+◌, ◌-◌, ◌*◌, ◌<◌, ◌≤◌, Bool, ℤ, pos, List, length, take, drop, get_or, Option, Some, None, slice_get, refl, sym, ◌∙◌, ap, subst, arith}
use Rattle.std.proofs.lemmas.List.{get_or-take, get_or-drop, length-take-le, length-drop}
use Rattle.std.proofs.Math.Nat.{mul_comm}
use Rattle.pl_spec.specs.Rounding.{IsCell}
use Rattle.pl_pipeline.specs.Term as spec
use Rattle.pl_pipeline.specs.Term.Input.{TermInput}
use Rattle.pl_spec.proofs.Places.{row-within}
use borrow.Rule.Slice.PartMut.{put_mid}
use Rattle.pl_bars.proofs.BarFilling.{part_within, part_written}
use Rattle.pl_values.specs.Arrays.{Holds, Fills, is_kept}
use Rattle.pl_values.specs.Laws.{IsNode}
use Rattle.pl_exec.specs.declared.chunk_inputs.Array.{Array}
use Rattle.pl_exec.specs.declared.course.Course.{Course}
use Rattle.pl_exec.specs.declared.windows.Source.TheVariants.{InTerm}
use Rattle.pl_exec.specs.declared.term_session.TermSession.{TermSession}
use Rattle.pl_exec.specs.Tasks.{Task, IsArray, assets_in, cell_in, count_in, low_in, sids_in}
use Rattle.pl_exec.specs.ChunkInputs.{IsArrayOf, IsCourse, IsLent, IsMaskLent, IsOperand, IsReadFrom, IsTermSession, IsWritten, node_at, node_in, task_at, task_in, session_in}
use Rattle.pl_exec.proofs.Held.{term_session_is, held}

pub course_session : (c : Course) → IsCourse c → (j : ℕ) → j < c.count → IsTermSession (session_in c j)
course_session c is j h = term_session_is (session_in c j) is.chunk is.run is.node (let l = is.low in omega arith) (let e = is.end in omega arith) is.empty

pub course_node : (c : Course) → IsCourse c → IsNode (task_in c).pipeline c.term.0 (node_in c)
course_node c is = record { checked = is.chunk.task.checked; node = is.node }

-- the mask that is there
pub masked_by : (t : Task) (m : Option ℕ) (a : Array) → IsMaskLent t m (Some a) → (u : ℕ) × ((m ≡ Some u) × IsArrayOf t u a)
masked_by t None a lent = absurd lent
masked_by t (Some u) a lent = (u, (refl, lent))

pub unmasked : (t : Task) (m : Option ℕ) → IsMaskLent t m None → m ≡ None
unmasked t None lent = refl
unmasked t (Some u) lent = absurd lent

-- ---- lanes

pub none_laned : (f : ℕ → ℕ → ℤ) (low count : ℕ) (cells : List ℤ) → IsWritten f low count 0 count cells
none_laned f low count cells = record { each = λ i j a l. absurd (omega arith); cell = λ i j a l. absurd (omega arith) }

pub one_laned : (f : ℕ → ℕ → ℤ) (low count i n : ℕ) (xs ys : List ℤ) → (i + 1) * count ≤ length xs → IsWritten f low count i count xs → Fills (λ j. f i (low + j)) count ys
    → IsWritten f low count (i + 1) count (put_mid (i * count) n xs ys)
one_laned f low count i n xs ys within so_far row = record {
  each = part_written (λ a j v. v ≡ f a (low + j)) xs ys i count n within row.long so_far.each row.each;
  cell = λ a j h l. subst IsCell (part_written (λ b k v. v ≡ f b (low + k)) xs ys i count n within row.long so_far.each row.each a j h l)
      (part_written (λ b k v. IsCell v) xs ys i count n within row.long (λ b k x y. subst IsCell (sym (so_far.each b k x y)) (so_far.cell b k x y)) (λ k y. subst IsCell (sym (row.each k y)) (row.cell k y)) a j h l);
}

pub lane_room : (i assets count size : ℕ) → i < assets → assets * count ≤ size → (i + 1) * count ≤ size
lane_room i assets count size h r = let p = part_within i assets count h in let m = mul_comm count assets in omega (arith, p, m, r)

pub course_array : (c : Course) → IsCourse c → (cells : List ℤ) → Holds (cell_in (task_in c) c.term.0) (assets_in (task_in c)) c.low c.count cells → IsArray (task_in c) c.term.0 cells
course_array c is cells h =
    let n : c.count ≡ count_in (task_in c) c.term.0 = (let l = is.low in let e = is.end in omega arith) in
    subst (λ m. Holds (cell_in (task_in c) c.term.0) (assets_in (task_in c)) (low_in (task_in c) c.term.0) m cells) n
    (subst (λ l. Holds (cell_in (task_in c) c.term.0) (assets_in (task_in c)) l c.count cells) is.low h)

pub kept_on : (c : Course) (t : TermSession) (i j : ℕ) (k : Bool) → t ≡ session_in c j → k ≡ is_kept (task_at t).world (task_at t).pipeline (sids_in (task_at t)) (node_at t).mask i t.session
    → k ≡ is_kept (task_in c).world (task_in c).pipeline (sids_in (task_in c)) (node_in c).mask i (c.low + j)
kept_on c t i j k e h = subst (λ (u : TermSession). k ≡ is_kept (task_at u).world (task_at u).pipeline (sids_in (task_at u)) (node_at u).mask i u.session) e h

pub count_of : (c : Course) → IsCourse c → c.count ≡ count_in (task_in c) c.term.0
count_of c is = let l = is.low in let e = is.end in omega arith

-- ---- the cells of an array on the sessions of a course

module _ (c : Course) (u : ℕ) (a : Array) (is : IsCourse c) (read : IsReadFrom c u a) (i : ℕ) (asset : i < assets_in (task_in c)) where
  abbrev start : ℕ
  start = i * a.count + (c.low - a.low)

  read_held : Holds (cell_in (task_in c) u) (assets_in (task_in c)) a.low a.count a.cells.now
  read_held = held (task_in c) u a read.array

  pub lane_within : start + c.count ≤ length a.cells.now
  lane_within =
      let some = is.some in
      let e = is.end in let f = read.array.end in let l = read.early in
      let p = row-within i (assets_in (task_in c)) a.count (c.low - a.low + (c.count - 1)) asset (omega arith) in
      let r = read_held.room in
      omega arith

  lane_at : (n j : ℕ) → n ≡ c.count → j < c.count → get_or (take n (drop start a.cells.now)) j (pos 0) ≡ cell_in (task_in c) u i (c.low + j)
  lane_at n j same h =
      let e = is.end in let f = read.array.end in let l = read.early in
      let at : start + j ≡ i * a.count + (c.low + j - a.low) = omega arith in
      let s : a.low + (c.low + j - a.low) ≡ c.low + j = omega arith in
      get_or-take n (drop start a.cells.now) j (pos 0) (omega arith)
      ∙ get_or-drop start a.cells.now j (pos 0)
      ∙ ap (λ m. get_or a.cells.now m (pos 0)) at
      ∙ read_held.each i (c.low + j - a.low) asset (omega arith)
      ∙ ap (cell_in (task_in c) u i) s

  pub lane_read : (n : ℕ) → n ≡ c.count → IsOperand c u i (take n (drop start a.cells.now))
  lane_read n same = record {
    long = (let w = lane_within in let d : length (drop start a.cells.now) ≡ length a.cells.now - start = length-drop start a.cells.now in length-take-le n (drop start a.cells.now) (omega arith) ∙ same);
    each = λ j h. lane_at n j same h;
    cell = λ j h. (
        let e = is.end in let f = read.array.end in let l = read.early in
        let s : a.low + (c.low + j - a.low) ≡ c.low + j = omega arith in
        subst (λ x. IsCell (cell_in (task_in c) u i x)) s (read_held.cell i (c.low + j - a.low) asset (omega arith)));
  }

-- the array of an input
pub read_from : (c : Course) → IsCourse c → (place : ℕ) (a : Array) → IsLent (task_in c) (node_in c) (slice_get (node_in c).inputs place) (InTerm a)
    → (u : ℕ) × ((slice_get (node_in c).inputs place ≡ Some (TermInput u)) × IsReadFrom c u a)
read_from c is place a lent = here (slice_get (node_in c).inputs place) refl lent
  where
    here : (o : Option spec.Input) → slice_get (node_in c).inputs place ≡ o → IsLent (task_in c) (node_in c) o (InTerm a) → (u : ℕ) × ((slice_get (node_in c).inputs place ≡ Some (TermInput u)) × IsReadFrom c u a)
    here (Some (TermInput u)) e l =
        let r = (is.run.ready (node_in c) is.node).inputs place u e in
        (u, (e, record { array = l; early = (let x = r.early in let y = r.some in let z = is.low in let v = l.low in omega arith) }))
    here o e l = absurd l
