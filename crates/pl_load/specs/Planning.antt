-- How far back the terms of a pipeline are computed for the sessions of a range.
use Rattle.std.specs.Prelude.{◌≡◌, ℕ, zero, suc, ◌+◌, ◌-◌, ◌==◌, if◌then◌else◌, Bool, true, ℤ, pos, ◌-ℤ◌, List, [], ◌++◌, length, map, flat_map, filter_map, option_to_list, Option, Some, None, slice_get}
use Rattle.std.specs.List.{list_any, range_with_len}
use Rattle.std.specs.Int.{int_gap}
use Rattle.std.specs.Int.RustNames.{int_lt}
use Rattle.pl_spec.specs.Limits.{most_extra_rows}
use Rattle.pl_spec.specs.Window.{before}
use Rattle.pl_pipeline.specs.Term.{Node, Graph}
use Rattle.pl_pipeline.specs.Graph.{input_number, least_of, reads_at}
use Rattle.pl_pipeline.specs.Lows.{least_reach}
use Rattle.pl_pipeline.specs.Table.{Pipeline}
use Rattle.pl_terms.specs.Uses.{outputs, is_used}
use Rattle.pl_planner.specs.Plans.{Planned, extra}

-- a session on which a term is needed
pub record Need : Type 0 where
  pub term : ℕ
  pub session : ℤ

abbrev pub all_on : ℤ → List ℕ → List Need
all_on s terms = map (λ t. record { term = t; session = s }) terms

-- What a node reads for its session s: its inputs from the first session of its window on, its mask and its
-- group on s.
abbrev pub node_reads : List ℤ → Option Node → ℤ → List Need
node_reads days None s = []
node_reads days (Some n) s =
    all_on (before (reads_at days n.kind s) (n.window - 1)) (filter_map input_number n.inputs)
    ++ all_on s (option_to_list n.mask ++ option_to_list n.group)

abbrev pub sessions_of : List Need → ℕ → List ℤ
sessions_of needs t = filter_map (λ n. if n.term == t then Some n.session else None) needs

-- These, and what the terms numbered below n read for them; a term mentions lower numbers alone.
abbrev pub needs_below : List ℤ → Graph → ℕ → List Need → List Need
needs_below days g zero needs = needs
needs_below days g (suc n) needs =
    needs_below days g n (needs ++ flat_map (node_reads days (slice_get g n)) (sessions_of needs n))

-- All sessions that are needed of terms where the outputs are asked for on session d.
unfoldable pub needs : List ℤ → Graph → List ℕ → ℤ → List Need
needs days g outputs d = needs_below days g (length g) (all_on d outputs)

-- the first session on which term t is computed for session d
abbrev pub first_of : List ℤ → Pipeline → ℕ → ℤ → ℤ
first_of days p t d = least_of (sessions_of (needs days p.graph (outputs p) d) t) d

-- the first session on which some term is computed for session d
abbrev pub first_of_all : List ℤ → Pipeline → ℤ → ℤ
first_of_all days p d = least_of (map (λ n. n.session) (needs days p.graph (outputs p) d)) d

-- the extra rows of term t for a range that begins with session from
unfoldable pub extra_of : List ℤ → Pipeline → ℕ → ℕ → ℕ
extra_of days p from t = int_gap (first_of days p t (pos from)) (pos from)

-- a plan has these extra rows
abbrev pub HasRows : List ℤ → Pipeline → Planned → Type 0
HasRows days p plan = (t : ℕ) → is_used p t ≡ true → extra plan t ≡ extra_of days p plan.from t

-- for a session of the range some term has too many extra rows
unfoldable pub is_too_deep : List ℤ → Pipeline → ℕ → ℕ → Bool
is_too_deep days p from to =
    list_any (λ d. int_lt (pos most_extra_rows) (pos d -ℤ first_of_all days p (pos d))) (range_with_len from (to + 1 - from))

-- the first session whose bars the columns and the screen show on session d
unfoldable pub reach_at : List ℤ → Pipeline → ℕ → ℤ
reach_at days p d = least_reach days p.graph (outputs p) (pos d)
