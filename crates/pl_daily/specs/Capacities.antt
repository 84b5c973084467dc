-- How many sessions a pipeline reads of a bar column and of a term, day by day.
use Rattle.std.specs.Prelude.{ℕ, ◌+◌, Bool, ◌&&◌, ◌||◌, nat_lt, if◌then◌else◌, max, map, fold, filter_map, List, Option, Some, None, unwrap_or, slice_get, false, ◌==◌}
use Rattle.pl_spec.specs.declared.Column.{Column}
use Rattle.pl_spec.specs.World.{column_number}
use Rattle.pl_pipeline.specs.Term.{Input, Node}
use Rattle.pl_pipeline.specs.Term.Input.{BarColumn, TermInput}
use Rattle.pl_pipeline.specs.Graph.{contains, input_column, input_number, used_terms}
use Rattle.pl_pipeline.specs.Cones.{cone_depths, mark}
use Rattle.pl_pipeline.specs.Table.{Pipeline}
use Rattle.pl_terms.specs.Sorts.{is_windowed}
use Rattle.pl_terms.specs.Uses.{outputs}

-- the depth of term u in a cone, 0 where it is not of it
abbrev pub depth_in : ℕ → List (ℕ × ℕ) → ℕ
depth_in u cone = unwrap_or (mark u cone) 0

-- On how many sessions before the last one term u is read as it is seen on the last: the greatest of its
-- depths in the cones of used terms.
unfoldable pub deepest : Pipeline → ℕ → ℕ
deepest p u = fold max 0 (map (λ t. depth_in u (cone_depths p.graph t)) (used_terms p.graph (outputs p)))

-- ---- what a node reads that is itself read up to so many sessions before the last one

-- an input of the node is the bar column
abbrev pub reads_column : Column → Node → Bool
reads_column c n = contains (filter_map input_column n.inputs) (column_number c)

-- an input is the term; but for windows, only what is computed anew reads the rings of terms
abbrev pub reads_term : ℕ → ℕ → Node → Bool
reads_term t depth n = (is_windowed n.kind || nat_lt 0 depth) && contains (filter_map input_number n.inputs) t

abbrev pub is_mask : ℕ → Option ℕ → Bool
is_mask t None = false
is_mask t (Some m) = m == t

abbrev pub is_masked_by : ℕ → ℕ → Node → Bool
is_masked_by t depth n = nat_lt 0 depth && is_mask t n.mask

-- so many sessions of an input or of the mask
abbrev pub sessions_read : Input → ℕ → Node → ℕ
sessions_read (BarColumn c) depth n = if reads_column c n then n.window + depth else 0
sessions_read (TermInput t) depth n =
    if reads_term t depth n then n.window + depth else if is_masked_by t depth n then depth + 1 else 0

abbrev pub sessions_read_at : Input → Pipeline → ℕ → ℕ
sessions_read_at x p k = sessions_by (slice_get p.graph k)
  where
    sessions_by : Option Node → ℕ
    sessions_by None = 0
    sessions_by (Some n) = sessions_read x (deepest p k) n

-- the most that a used term reads of it; 0 where none does
abbrev pub most_read : Input → Pipeline → ℕ
most_read x p = fold max 0 (map (sessions_read_at x p) (used_terms p.graph (outputs p)))

-- how many sessions before the last one are read of a bar column
unfoldable pub column_window : Pipeline → Column → ℕ
column_window p c = most_read (BarColumn c) p

-- and how many sessions up to the last one of a term
unfoldable pub term_window : Pipeline → ℕ → ℕ
term_window p t = most_read (TermInput t) p
