-- Whether a node reaches no session below 0, by the first sessions of its inputs, its mask and its group.
use Rattle.std.specs.Prelude.{ℕ, ◌+◌, ◌-◌, Bool, true, false, ◌&&◌, if◌then◌else◌, nat_le, List, get_or, slice_get, Option, Some, None}
use Rattle.std.specs.List.{list_all}
use Rattle.pl_pipeline.specs.Kind.{Kind}
use Rattle.pl_pipeline.specs.Term.{Input, Node}
use Rattle.pl_pipeline.specs.Term.Input.{BarColumn, TermInput}
use Rattle.pl_pipeline.specs.Table.{Pipeline}
use Rattle.pl_terms.specs.Sorts.{is_downsampled}
use Rattle.pl_terms.specs.Uses.{is_used}

-- the first session is at least so many sessions before session s
abbrev pub is_since : Option ℕ → ℕ → ℕ → Bool
is_since None back s = false
is_since (Some first) back s = nat_le (first + back) s

-- a window of the input that ends with session s, one of bars with the session before
abbrev pub is_input_ready : List (Option ℕ) → ℕ → ℕ → Input → Bool
is_input_ready since window s (BarColumn c) = nat_le window s
is_input_ready since window s (TermInput t) = is_since (get_or since t None) (window - 1) s

-- a mask or a group
abbrev pub is_number_ready : List (Option ℕ) → ℕ → Option ℕ → Bool
is_number_ready since s None = true
is_number_ready since s (Some t) = is_since (get_or since t None) 0 s

-- the session up to which a node reads its inputs
abbrev pub read_up_to : ℕ → ℕ → Kind → ℕ
read_up_to start s k = if is_downsampled k then start else s

abbrev pub is_node_ready : List (Option ℕ) → ℕ → ℕ → Node → Bool
is_node_ready since start s n =
    list_all (is_input_ready since n.window (read_up_to start s n.kind)) n.inputs && is_number_ready since s n.mask && is_number_ready since s n.group

-- the node of a number, of which there may be none
abbrev pub is_found_ready : List (Option ℕ) → ℕ → ℕ → Option Node → Bool
is_found_ready since start s None = false
is_found_ready since start s (Some n) = is_node_ready since start s n

-- a used term that is ready on session s
abbrev pub is_used_ready : Pipeline → List (Option ℕ) → ℕ → ℕ → ℕ → Bool
is_used_ready p since k start s = is_found_ready since start s (slice_get p.graph k) && is_used p k

-- the first session, with a further one
abbrev pub first_with : Option ℕ → Bool → ℕ → Option ℕ
first_with (Some first) ready s = Some first
first_with None ready s = if ready then Some s else None

abbrev pub is_known : Option ℕ → Bool
is_known None = false
is_known (Some first) = true

-- the term has its first session
abbrev pub has_first : List (Option ℕ) → ℕ → Bool
has_first since t = is_known (get_or since t None)
