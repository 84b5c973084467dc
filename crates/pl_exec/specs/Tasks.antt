-- The work of one chunk, and what the arrays of its terms hold.
use Rattle.std.specs.Prelude.{◌≡◌, ℕ, ◌+◌, ◌-◌, ◌*◌, ◌<◌, ◌≤◌, Bool, true, if◌then◌else◌, ℤ, List, [], ◌∷◌, length, map, filter, filter_map, take, sum_by, count_by, Option, Some, None, slice_get, All, AllPairs}
use Rattle.std.specs.List.{range_with_len}
use Rattle.pl_spec.specs.declared.Column.{Column}
use Rattle.pl_spec.specs.declared.Column.TheVariants.{OpenPrice, High, Low, Close, Volume}
use Rattle.pl_spec.specs.Parts.{sid_at}
use Rattle.pl_spec.specs.World.{World, column_number}
use Rattle.pl_spec.specs.Window.{applied_steps}
use Rattle.pl_pipeline.specs.Term.{Graph, Node}
use Rattle.pl_pipeline.specs.Graph.{contains, columns_at, input_column, used_terms}
use Rattle.pl_pipeline.specs.Table.{Pipeline, array_of}
use Rattle.pl_terms.specs.Uses.{outputs}
use Rattle.pl_planner.specs.Plans.{Planned, is_used, low_at, last_user, slot_of}
use Rattle.pl_values.specs.Arrays.{cell_of, Holds, HasAll}
use Rattle.pl_workspace.specs.Slots.{Slots}
use Rattle.pl_exec.specs.Slotted.{IsHeld, AreLive, kept}

-- the sessions from .. to of a planned pipeline, for the assets in some columns
pub record Task : Type 0 where
  pub world : World
  pub pipeline : Pipeline
  pub plan : Planned
  pub cols : List ℕ
  pub from : ℕ
  pub to : ℕ

abbrev pub graph_in : Task → Graph
graph_in t = t.pipeline.graph

abbrev pub sids_in : Task → List ℕ
sids_in t = map (sid_at t.world.assets) t.cols

abbrev pub assets_in : Task → ℕ
assets_in t = length t.cols

-- what the array of term k holds for place i on session s
abbrev pub cell_in : Task → ℕ → ℕ → ℕ → ℤ
cell_in t k i s = cell_of t.world t.pipeline (sids_in t) k i s

-- the first session on which term k is computed for the chunk, and on how many it is
abbrev pub low_in : Task → ℕ → ℕ
low_in t k = low_at t.plan k t.from

abbrev pub count_in : Task → ℕ → ℕ
count_in t k = t.to + 1 - low_in t k

abbrev pub IsArray : Task → ℕ → List ℤ → Type 0
IsArray t k cells = Holds (cell_in t k) (assets_in t) (low_in t k) (count_in t k) cells

-- term u is kept while term k is computed
abbrev pub kept_in : Task → ℕ → ℕ → Bool
kept_in t k u = kept (is_used t.plan) (last_user t.plan) k u

-- ---- bar columns

-- the distinct bar columns among the inputs
abbrev pub columns_of : Node → List Column
columns_of n = filter (λ c. contains (filter_map input_column n.inputs) (column_number c)) (OpenPrice ∷ High ∷ Low ∷ Close ∷ Volume ∷ [])

abbrev pub columns_of_term : Graph → ℕ → List Column
columns_of_term g k = of_node (slice_get g k)
  where
    of_node : Option Node → List Column
    of_node None = []
    of_node (Some n) = columns_of n

abbrev pub window_of_term : Graph → ℕ → ℕ
window_of_term g k = of_node (slice_get g k)
  where
    of_node : Option Node → ℕ
    of_node None = 0
    of_node (Some n) = n.window

-- a bar column is buffered from so many sessions before the first one on which the term is computed
abbrev pub first_row : Task → ℕ → ℕ
first_row t k = low_in t k - window_of_term (graph_in t) k

-- up to the session before the last one
abbrev pub row_count : Task → ℕ → ℕ
row_count t k = count_in t k - 1 + window_of_term (graph_in t) k

-- the steps of all traversals of term k
unfoldable pub term_steps : Task → ℕ → ℕ
term_steps t k = sum_by (λ c. applied_steps t.world c (first_row t k) (row_count t k) (sids_in t)) (columns_of_term (graph_in t) k)

-- and of all used terms
abbrev pub chunk_steps : Task → ℕ
chunk_steps t = sum_by (term_steps t) (used_terms (graph_in t) (outputs t.pipeline))

-- those of a number, none where the term is not used
abbrev pub steps_in : Task → ℕ → ℕ
steps_in t k = if is_used t.plan k then term_steps t k else 0

-- the results and bar columns that are held while a used term is computed
abbrev pub held_in : Task → ℕ → ℕ
held_in t k = if is_used t.plan k then count_by (kept_in t k) (range_with_len 0 (k + 1)) + columns_at (graph_in t) k else 0

-- ---- what the executor asks for, and what it leaves

-- the columns are of assets, ascend, and have each asset that exists on a computed session
pub record AreColumns (t : Task) : Type 0 where
  pub within : All (λ c. c < length t.world.assets) t.cols
  pub ascend : AllPairs (λ a b. a < b) t.cols
  pub all : (k s : ℕ) → is_used t.plan k ≡ true → low_in t k ≤ s → s ≤ t.to → HasAll t.world (sids_in t) s

-- slots of so many cells have room for the array of each used term and of each of its bar columns
pub record HasRoom (t : Task) (len : ℕ) : Type 0 where
  pub terms : (k : ℕ) → is_used t.plan k ≡ true → assets_in t * count_in t k ≤ len
  pub columns : (k : ℕ) → is_used t.plan k ≡ true → 0 < columns_at (graph_in t) k → assets_in t * row_count t k ≤ len

-- the cells begin with the values of term k, asset by asset, session by session
abbrev pub HasValues : Task → ℕ → List ℤ → Type 0
HasValues t k cells = take (assets_in t * count_in t k) cells ≡ array_of t.world t.pipeline (sids_in t) (low_in t k) t.to k

-- The slot of each output begins with its values, asset by asset, on the sessions on which it is computed;
-- every other slot is free.
pub record HoldsOutputs (t : Task) (w : Slots) : Type 0 where
  pub arrays : (k : ℕ) → contains (outputs t.pipeline) k ≡ true → IsHeld (IsArray t k) w (slot_of t.plan k)
  pub values : (k : ℕ) → contains (outputs t.pipeline) k ≡ true → IsHeld (HasValues t k) w (slot_of t.plan k)
  pub only : AreLive (slot_of t.plan) (IsArray t) (contains (outputs t.pipeline)) (length (graph_in t)) w
