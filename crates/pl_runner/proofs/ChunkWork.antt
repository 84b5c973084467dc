-- A chunk can be computed, and its outputs can be written.
use Rattle.std.proofs.Common.{◌≡◌, ℕ, ◌+◌, ◌-◌, ◌<◌, ◌≤◌, true, ℤ, pos, List, [], None, length, map, Some, slice_get, get_or, refl, sym, ap, subst, arith}
use Rattle.std.specs.List.{All, AllPairs}
use Rattle.std.proofs.lemmas.Nat.{mul-le}
use Rattle.std.proofs.lemmas.Option.{slice_get-get_or}
use Rattle.pl_pipeline.specs.Kind.Kind.{Constant}
use Rattle.pl_spec.specs.Parts.{sid_at}
use Rattle.pl_spec.specs.World.{World}
use Rattle.pl_pipeline.specs.Term.{Node}
use Rattle.pl_pipeline.specs.Table.{Pipeline}
use Rattle.pl_terms.specs.Checked.{IsChecked}
use Rattle.pl_planner.specs.Plans.{Planned, IsPlanOf, is_used, low_at}
use Rattle.pl_planner.proofs.Pipelines.{is-pipeline, some-output, output-used}
use Rattle.pl_values.specs.Arrays.{HasAll}
use Rattle.pl_exec.specs.declared.chunk.Chunk.{Chunk}
use Rattle.pl_runner.specs.Chunks.{columns_of}
use Rattle.pl_runner.specs.Room as chunks
use Rattle.pl_runner.specs.Room.{rows_at}
use Rattle.pl_runner.proofs.Assets.{columns-have, columns_of-ascend, columns_of-within, columns_of-few}
use Rattle.pl_runner.proofs.Terms.{used-within}
use Rattle.pl_exec.specs.Tasks.{Task, AreColumns, HasRoom, window_of_term}

-- the task of a chunk
abbrev pub work : World → Pipeline → Planned → List ℕ → Chunk → Task
work w p plan cols chunk = record { world = w; pipeline = p; plan = plan; cols = cols; from = chunk.from; to = chunk.to }

module _ (days : List ℤ) (w : World) (p : Pipeline) (plan : Planned) (chunk : Chunk) (ok : IsChecked p) (is : IsPlanOf days p plan) (from : plan.from ≤ chunk.from) (order : chunk.from ≤ chunk.to) (to : chunk.to ≤ plan.to)
    (cols : List ℕ) (own : cols ≡ columns_of w p plan chunk) where
  pub are-columns : AllPairs (λ x y. x.sid < y.sid) w.assets → AreColumns (work w p plan cols chunk)
  are-columns up =
      record {
        within = subst (All (λ c. c < length w.assets)) (sym own) (columns_of-within w p plan chunk);
        ascend = subst (AllPairs (λ a b. a < b)) (sym own) (columns_of-ascend w p plan chunk);
        all = λ k s u a b. subst (λ (cs : List ℕ). HasAll w (map (sid_at w.assets) cs) s) (sym own) (columns-have days w p plan chunk is up k s u a b);
      }

  pub few-columns : length cols ≤ length w.assets
  few-columns = omega (arith, ap length own, columns_of-few w p plan chunk)

  none : Node
  none = record { kind = Constant (pos 0); inputs = []; mask = None; group = None; window = 0 }

  there : (k : ℕ) → is_used plan k ≡ true → slice_get p.graph k ≡ Some (get_or p.graph k none)
  there k u = slice_get-get_or p.graph k none (used-within days p plan is k u)

  rows-enough : (k : ℕ) → is_used plan k ≡ true → (chunk.to + 1 - low_at plan k chunk.from ≤ rows_at plan chunk k (get_or p.graph k none)) × (chunk.to + 1 - low_at plan k chunk.from - 1 + window_of_term p.graph k ≤ rows_at plan chunk k (get_or p.graph k none))
  rows-enough k u =
      let low = (is.lows.few k chunk.from (u, (from, omega arith))).0 in
      let window = ((is-pipeline p ok).windows k (get_or p.graph k none) (there k u)).0 in
      let same : window_of_term p.graph k ≡ (get_or p.graph k none).window = rw (there k u) refl in
      (omega arith, omega arith)

  pub has-room : (len : ℕ) → chunks.HasRoom w p plan chunk len → HasRoom (work w p plan cols chunk) len
  has-room len h =
      record {
        terms = λ k u.
            let m = mul-le (length cols) (chunk.to + 1 - low_at plan k chunk.from) (length (columns_of w p plan chunk)) (rows_at plan chunk k (get_or p.graph k none)) (omega (arith, ap length own)) (rows-enough k u).0 in
            let l = h.each k (get_or p.graph k none) u (there k u) in
            omega (arith, m, l);
        columns = λ k u some.
            let m = mul-le (length cols) (chunk.to + 1 - low_at plan k chunk.from - 1 + window_of_term p.graph k) (length (columns_of w p plan chunk)) (rows_at plan chunk k (get_or p.graph k none)) (omega (arith, ap length own)) (rows-enough k u).1 in
            let l = h.each k (get_or p.graph k none) u (there k u) in
            omega (arith, m, l);
      }

  -- the sessions of the chunk itself are computed
  pub all-there : AllPairs (λ x y. x.sid < y.sid) w.assets → (s : ℕ) → chunk.from ≤ s → s ≤ chunk.to → HasAll w (map (sid_at w.assets) cols) s
  all-there up s a b =
      let t = some-output p ok in
      let u = output-used days p plan ok is t.0 t.1 in
      let low = (is.lows.few t.0 chunk.from (u, (from, omega arith))).0 in
      subst (λ (cs : List ℕ). HasAll w (map (sid_at w.assets) cs) s) (sym own) (columns-have days w p plan chunk is up t.0 s u (omega arith) b)
