-- What is read of the arrays that are there.
use Rattle.std.proofs.Common.{◌≡◌, ℕ, ◌+◌, ◌-◌, ◌*◌, ◌<◌, ◌≤◌, ◌&&◌, ℤ, pos, List, length, get_or, Some, sym, ◌∙◌, ap, subst, arith, AllPairs, ◌<ℤ◌, slice_get}
use Rattle.std.proofs.lemmas.Int.{ints}
use Rattle.pl_laws.proofs.Rises.{start-rises}
use Rattle.pl_spec.specs.Rounding.{IsCell}
use Rattle.pl_spec.proofs.Places.{row-within}
use Rattle.pl_spec.specs.World.{World, exists}
use Rattle.pl_pipeline.specs.Table.{Pipeline}
use Rattle.pl_spec.specs.Cells.{is_true}
use Rattle.pl_cross.specs.Arrays.{sid_in}
use Rattle.pl_values.specs.Arrays.{Holds, Fills, IsKeep, is_kept, kept_or, cell_of, empty_cell}
use Rattle.pl_workspace.specs.Slots.{Slots}
use Rattle.pl_exec.specs.Tasks.{Task, graph_in, assets_in, cell_in, count_in, low_in}
use Rattle.pl_exec.specs.declared.chunk_inputs.Array.{Array}
use Rattle.pl_exec.specs.declared.term_session.TermSession.{TermSession}
use Rattle.pl_exec.specs.ChunkInputs.{IsArrayOf, AreChunkInputs, IsRead, IsReady, IsRun, IsTermSession, node_at, task_at}
use Rattle.pl_exec.proofs.Places.{both_told}

pub read_less : (t : Task) (w : Slots) (s size u : ℕ) → IsRead t w s size u → IsRead t w s 1 u
read_less t w s size u r = record { known = r.known; used = r.used; held = r.held; some = omega arith; early = (let e = r.early in let o = r.some in omega arith) }

-- from a later session on
pub later_ready : (t : Task) (w : Slots) (low s : ℕ) (n : _) → AllPairs (λ a b. a <ℤ b) t.world.days → low ≤ s → IsReady t w low n → IsReady t w s n
later_ready t w low s n up h r = record {
  inputs = λ i u e. later n.window u (r.inputs i u e);
  mask = λ u e. later 1 u (r.mask u e);
  group = λ u e. later 1 u (r.group u e);
  start = λ f u k e. let a = r.start f u k e in let b = start-rises f t.world.days up (pos low) (pos s) (omega (arith, ints)) in omega (arith, ints);
}
  where
    later : (size u : ℕ) → IsRead t w low size u → IsRead t w s size u
    later size u x = record { known = x.known; used = x.used; held = x.held; some = x.some; early = (let y = x.early in omega arith) }

pub term_session_is : (t : TermSession) → AreChunkInputs t.chunk.now → IsRun (task_at t) t.workspace.now t.term.0 → slice_get (graph_in (task_at t)) t.term.0 ≡ Some (node_at t) → low_in (task_at t) t.term.0 ≤ t.session → t.session ≤ t.chunk.now.to
    → t.empty ≡ empty_cell (task_at t).pipeline t.term.0 → IsTermSession t
term_session_is t chunk run node low late empty = record {
  chunk = chunk;
  node = node;
  ready = later_ready (task_at t) t.workspace.now _ t.session (node_at t) chunk.task.days low (run.ready (node_at t) node);
  late = late;
  deep = (let d = run.deep (node_at t) node in omega arith);
  all = chunk.task.columns.all t.term.0 t.session run.used low late;
  empty = empty;
}

-- the array of term u, as the code has it, and its cell for an asset on a session
module _ (t : Task) (u : ℕ) (a : Array) (is : IsArrayOf t u a) where
  pub held : Holds (cell_in t u) (assets_in t) a.low a.count a.cells.now
  held =
      let low = is.low in let end = is.end in
      let e : count_in t u ≡ a.count = omega (arith, low, end) in
      subst (λ n. Holds (cell_in t u) (assets_in t) a.low n a.cells.now) e (subst (λ l. Holds (cell_in t u) (assets_in t) l (count_in t u) a.cells.now) (sym is.low) is.holds)

  module _ (i s : ℕ) (asset : i < assets_in t) (early : low_in t u ≤ s) (late : s ≤ t.to) where
    inside : s - a.low < a.count
    inside = let low = is.low in let end = is.end in omega (arith, low, end, early, late)

    there : a.low + (s - a.low) ≡ s
    there = let low = is.low in omega (arith, low, early)

    pub cell_within : i * a.count + (s - a.low) < length a.cells.now
    cell_within = let p = row-within i (assets_in t) a.count (s - a.low) asset inside in let r = held.room in omega (arith, p, r)

    pub cell_is : get_or a.cells.now (i * a.count + (s - a.low)) (pos 0) ≡ cell_in t u i s
    cell_is = held.each i (s - a.low) asset inside ∙ ap (cell_in t u i) there

    pub is_cell : IsCell (cell_in t u i s)
    is_cell = subst (λ d. IsCell (cell_in t u i d)) there (held.cell i (s - a.low) asset inside)

-- who exists and passes the mask
pub kept_masked : (w : World) (p : Pipeline) (sids : List ℕ) (m n s : ℕ) (old new mask : List ℤ) → IsKeep (λ i. exists w (sid_in sids i) (pos s)) n old → Fills (λ i. cell_of w p sids m i s) n mask
    → length new ≡ length old → ((i : ℕ) → i < length old → get_or new i (pos 0) ≡ kept_or (pos 0) mask (λ j. get_or old j (pos 0)) i)
    → IsKeep (λ i. is_kept w p sids (Some m) i s) n new
kept_masked w p sids m n s old new mask k f long each = record {
  long = long ∙ k.long;
  each = λ i h. ap is_true (each i (let l = k.long in omega arith)) ∙ both_told (is_true (get_or mask i (pos 0))) (get_or old i (pos 0))
      ∙ ap (λ b. b && is_true (get_or mask i (pos 0))) (k.each i h) ∙ ap (λ x. exists w (sid_in sids i) (pos s) && is_true x) (f.each i h);
}
