-- The columns of a chunk, and their sids.
use Rattle.std.proofs.Common.{◌≡◌, ℕ, zero, suc, ◌<◌, ◌≤◌, List, [], ◌∷◌, length, map, get_or, sym, ◌∙◌, ap, subst, arith, All, AllPairs, sum_by, max, fold}
use Rattle.std.specs.List.{range_with_len}
use Rattle.std.proofs.lemmas.List.{length-map, get_or_default}
use Rattle.pl_spec.specs.declared.AssetRow.{AssetRow}
use Rattle.pl_spec.specs.Parts.{sid_at}
use Rattle.pl_pipeline.proofs.Unfolds.{stands}
use Rattle.pl_pipeline.specs.Graph.{contains}
use Rattle.pl_planner.specs.Columns.{most_held}
use Rattle.pl_planner.proofs.Held.{columns-same}
use Rattle.pl_spec.proofs.Columns.{sid_at-row}
use Rattle.pl_terms.specs.Uses.{outputs}
use Rattle.pl_planner.specs.Plans.{is_used, last_user, is_read_by, slot_of}
use Rattle.pl_workspace.specs.Slots.{Slots}
use Rattle.pl_exec.specs.Slotted.{AreLive}
use Rattle.pl_exec.specs.Tasks.{Task, HoldsOutputs, IsArray, chunk_steps, graph_in, held_in, kept_in, steps_in, term_steps}
use Rattle.pl_exec.specs.ChunkInputs.{IsTask}
use Rattle.pl_exec.proofs.ArrayLists.{array_is}
use Rattle.pl_exec.proofs.Living.{live_below}
use Rattle.pl_exec.proofs.Mentions.{live_at_last, output_known}
use Rattle.pl_exec.proofs.Listed.{held_bound, sum_filter, used_listed}
use Rattle.pl_exec.proofs.Places.{sid_of_place}

at_least : (xs : List ℕ) → AllPairs (λ a b. a < b) xs → (i : ℕ) → i < length xs → i ≤ get_or xs i 0
at_least xs up zero h = omega arith
at_least xs up (suc i) h = let a = at_least xs up i (omega arith) in let b : get_or xs i 0 < get_or xs (suc i) 0 = up i (suc i) 0 (omega arith) h in omega (arith, a, b)

pub few_cols : (xs : List ℕ) (n : ℕ) → AllPairs (λ a b. a < b) xs → All (λ c. c < n) xs → length xs ≤ n
few_cols [] n up inside = omega arith
few_cols (x ∷ xs) n up inside = let a = at_least (x ∷ xs) up (length xs) (omega arith) in let b : get_or (x ∷ xs) (length xs) 0 < n = inside (length xs) 0 (omega arith) in omega (arith, a, b)

pub sids_up : (assets : List AssetRow) → AllPairs (λ a b. a.sid < b.sid) assets → (cols : List ℕ) → AllPairs (λ a b. a < b) cols → All (λ c. c < length assets) cols → AllPairs (λ a b. a < b) (map (sid_at assets) cols)
sids_up assets rise cols up inside i j d l h =
    let n : length (map (sid_at assets) cols) ≡ length cols = length-map cols (sid_at assets) in
    let jh : j < length cols = omega (arith, n) in
    let ih : i < length cols = omega arith in
    let ci : get_or cols i 0 < length assets = inside i 0 ih in
    let cj : get_or cols j 0 < length assets = inside j 0 jh in
    let c : get_or cols i 0 < get_or cols j 0 = up i j 0 l jh in
    let a = stands assets (get_or cols j 0) cj in
    let s : (get_or assets (get_or cols i 0) a.0).sid < (get_or assets (get_or cols j 0) a.0).sid = rise (get_or cols i 0) (get_or cols j 0) a.0 c cj in
    let x : get_or (map (sid_at assets) cols) i d ≡ (get_or assets (get_or cols i 0) a.0).sid = get_or_default (map (sid_at assets) cols) i d 0 (omega arith) ∙ sid_of_place assets cols i ih ∙ sid_at-row assets (get_or cols i 0) a.0 ci in
    let y : get_or (map (sid_at assets) cols) j d ≡ (get_or assets (get_or cols j 0) a.0).sid = get_or_default (map (sid_at assets) cols) j d 0 h ∙ sid_of_place assets cols j jh ∙ sid_at-row assets (get_or cols j 0) a.0 cj in
    omega (arith, s, x, y)

-- ---- all terms

module _ (t : Task) (is : IsTask t) (k : ℕ) (all : k ≡ length (graph_in t)) where
  pub held_most : fold max 0 (map (held_in t) (range_with_len 0 k)) ≡ most_held (graph_in t) (outputs t.pipeline)
  held_most = ap (λ m. fold max 0 (map (held_in t) (range_with_len 0 m))) all
      ∙ held_bound (graph_in t) (outputs t.pipeline) (is_used t.plan) (λ n u. is_read_by (last_user t.plan u) n) is.plan.used (λ n u h. is.plan.live n u h) (columns-same (graph_in t) is.checked.steady)

  pub steps_sum : sum_by (steps_in t) (range_with_len 0 k) ≡ chunk_steps t
  steps_sum = ap (λ m. sum_by (steps_in t) (range_with_len 0 m)) all
      ∙ sym (ap (sum_by (term_steps t)) (used_listed (graph_in t) (outputs t.pipeline) (is_used t.plan) is.plan.used) ∙ sum_filter (term_steps t) (is_used t.plan) (range_with_len 0 (length (graph_in t))))

  pub outputs_held : (w : Slots) → AreLive (slot_of t.plan) (IsArray t) (kept_in t k) k w → HoldsOutputs t w
  outputs_held w live =
      let only = live_below (slot_of t.plan) (IsArray t) (kept_in t (length (graph_in t))) (contains (outputs t.pipeline)) (length (graph_in t)) w (live_at_last t is)
      (subst (λ m. AreLive (slot_of t.plan) (IsArray t) (kept_in t m) m w) all live) in
      record {
        arrays = λ u e. only.held u (output_known t is u e) e;
        values = λ u e. (let h = only.held u (output_known t is u e) e in record { cells = h.cells; is = h.is; holds = array_is t u h.cells h.holds });
        only = only;
      }
