-- What is held while a term is computed, and how far back terms read.
use Rattle.std.specs.Prelude.{ℕ, ◌+◌, if◌then◌else◌, Bool, true, false, max, ℤ, List, [], ◌∷◌, ◌++◌, length, map, flat_map, fold, count_by, filter_map, Option, Some, None, slice_get}
use Rattle.std.specs.List.{range_with_len, list_any}
use Rattle.pl_pipeline.specs.Term.{Node, Graph, Input}
use Rattle.pl_pipeline.specs.Term.Input.{BarColumn, TermInput}
use Rattle.pl_pipeline.specs.Cones.{cone_terms, reads_of}
use Rattle.pl_pipeline.specs.Graph.{contains, input_column, used_terms}
use Rattle.pl_planner.specs.declared.uses.Use.{Use}
use Rattle.pl_planner.specs.Extra.{back_from}
use Rattle.pl_planner.specs.Holds.{live_terms_by}
use Rattle.pl_planner.specs.Uses.{use_at, is_kept}

abbrev pub columns_in : Node → ℕ
columns_in n = count_by (contains (filter_map input_column n.inputs)) (0 ∷ 1 ∷ 2 ∷ 3 ∷ 4 ∷ [])

-- the bar columns that term k reads, and those that it or its cone reads
abbrev pub bars_at : Graph → ℕ → List ℕ
bars_at g k = bars_of (slice_get g k)
  where
    bars_of : Option Node → List ℕ
    bars_of None = []
    bars_of (Some n) = filter_map input_column n.inputs

abbrev pub bars_with : Graph → ℕ → List ℕ → List ℕ
bars_with g k cone = bars_at g k ++ flat_map (bars_at g) cone

-- how many distinct ones these are
abbrev pub columns_with : Graph → ℕ → List ℕ → ℕ
columns_with g k cone = count_by (contains (bars_with g k cone)) (0 ∷ 1 ∷ 2 ∷ 3 ∷ 4 ∷ [])

abbrev pub columns_held : Graph → ℕ → ℕ
columns_held g k = columns_with g k (cone_terms g k)

-- the greatest number of results and bar columns that are held at once
abbrev pub most_held : Graph → List ℕ → ℕ
most_held g outputs =
    fold max 0 (map (λ k. length (live_terms_by (reads_of g) g outputs k) + columns_held g k) (used_terms g outputs))

-- the results and bar columns that are held while a used term is computed
abbrev pub held_at : Graph → List Use → ℕ → ℕ
held_at g uses k =
    if (use_at uses k).used then count_by (is_kept uses k) (range_with_len 0 (k + 1)) + columns_held g k else 0

abbrev pub is_bar : Input → Bool
is_bar (BarColumn c) = true
is_bar (TermInput k) = false

-- a window of bars ends on the session before the one that its inputs are read up to
abbrev pub bars_back : Node → ℕ
bars_back n = if list_any is_bar n.inputs then n.window else 0

-- how many sessions before session s a term reads that is computed so many sessions before it
abbrev pub node_back : List ℤ → ℕ → Option Node → ℕ → ℕ
node_back days s None extra = extra
node_back days s (Some n) extra = back_from days s n.kind extra + bars_back n

-- how many sessions before session s a used term reads
abbrev pub reads_back : List ℤ → ℕ → Graph → List Use → ℕ → ℕ
reads_back days s g uses t = if (use_at uses t).used then node_back days s (slice_get g t) (use_at uses t).extra else 0

abbrev pub most_back : List ℤ → ℕ → Graph → List Use → ℕ → ℕ
most_back days s g uses n = fold max 0 (map (reads_back days s g uses) (range_with_len 0 n))
