-- The terms that a pipeline uses, the sessions that they reach back to, and how many results are live at
-- once.
use Rattle.std.specs.Prelude.{◌≡◌, ℕ, zero, suc, ◌+◌, Bool, true, ◌&&◌, ◌||◌, if◌then◌else◌, ◌==◌, nat_le, max, ℤ, List, [], ◌∷◌, ◌++◌, length, map, filter, filter_map, fold, Option, Some, None, option_to_list, slice_get, count_by}
use Rattle.std.specs.List.{list_any}
use Rattle.std.specs.Int.{int_min}
use Rattle.pl_spec.specs.World.{column_number}
use Rattle.pl_spec.specs.Periods.{period_start}
use Rattle.pl_pipeline.specs.Kind.{Kind}
use Rattle.pl_pipeline.specs.Kind.Kind.{Downsample}
use Rattle.pl_spec.specs.Window.{before, downward}
use Rattle.pl_pipeline.specs.Term.{Term, Input, Node, Graph}
use Rattle.pl_pipeline.specs.Term.Term.{absent, column, node}
use Rattle.pl_pipeline.specs.Term.Input.{BarColumn, TermInput}

-- the least session that a term needs for session d
abbrev pub least_of : List ℤ → ℤ → ℤ
least_of ss d = fold int_min d ss

-- the reach of what stands in a term's place, over the size sessions up to d
abbrev pub part_reach : Term → (ℤ → ℤ) → ℕ → ℤ → ℤ
part_reach absent f size d = d
part_reach (column c) f size d = before d size
part_reach (node k n x y z m g) f size d = least_of (map (λ i. f (before d i)) (downward size)) d

-- the session up to which a term of the kind reads its inputs for session d; its mask and its group it reads
-- on d itself
abbrev pub reads_at : List ℤ → Kind → ℤ → ℤ
reads_at days (Downsample f) d = period_start f days d
reads_at days k d = d

-- the reach of a term by the calendar
unfoldable pub reach : List ℤ → Term → ℤ → ℤ
reach days absent d = d
reach days (column c) d = d
reach days (node k size x y z m g) d =
    let s = reads_at days k d in
    least_of (part_reach x (reach days x) size s ∷ part_reach y (reach days y) size s ∷ part_reach z (reach days z) size s ∷ part_reach m (reach days m) 1 d ∷ part_reach g (reach days g) 1 d ∷ []) d

-- ---- the graph by numbers

abbrev pub input_number : Input → Option ℕ
input_number (BarColumn c) = None
input_number (TermInput k) = Some k

-- the terms that a node mentions
abbrev pub mentions : Node → List ℕ
mentions n = filter_map input_number n.inputs ++ option_to_list n.mask ++ option_to_list n.group

abbrev pub contains : List ℕ → ℕ → Bool
contains xs k = list_any (λ x. x == k) xs

abbrev pub mentions_at : Graph → ℕ → List ℕ
mentions_at g k = mentions_of (slice_get g k)
  where
    mentions_of : Option Node → List ℕ
    mentions_of None = []
    mentions_of (Some n) = mentions n

-- outputs, and all that used terms mention
pub data Used (g : Graph) (outputs : List ℕ) : ℕ → Type 0 where
  output : {t : ℕ} → contains outputs t ≡ true → Used g outputs t
  mentioned : {t : ℕ} (u : ℕ) → Used g outputs u → contains (mentions_at g u) t ≡ true → Used g outputs t

-- the used terms numbered below n, where marks are the used terms from n on and those that they mention
abbrev pub used_below : Graph → ℕ → List ℕ → List ℕ
used_below g zero marks = []
used_below g (suc n) marks =
    used_below g n (if contains marks n then marks ++ mentions_at g n else marks) ++ (if contains marks n then n ∷ [] else [])

-- the used terms in ascending number
abbrev pub used_terms : Graph → List ℕ → List ℕ
used_terms g outputs = used_below g (length g) outputs

abbrev pub is_live : Graph → List ℕ → ℕ → ℕ → Bool
is_live g outputs k t =
    nat_le t k && (contains outputs t || list_any (λ u. nat_le k u && contains (mentions_at g u) t) (used_terms g outputs))

-- the used terms that are still to be read when term k is computed, k among them
abbrev pub live_terms : Graph → List ℕ → ℕ → List ℕ
live_terms g outputs k = filter (is_live g outputs k) (used_terms g outputs)

abbrev pub input_column : Input → Option ℕ
input_column (BarColumn c) = Some (column_number c)
input_column (TermInput k) = None

-- how many distinct bar columns term k reads
abbrev pub columns_at : Graph → ℕ → ℕ
columns_at g k = columns_of (slice_get g k)
  where
    columns_of : Option Node → ℕ
    columns_of None = 0
    columns_of (Some n) = count_by (contains (filter_map input_column n.inputs)) (0 ∷ 1 ∷ 2 ∷ 3 ∷ 4 ∷ [])

abbrev pub bound : Graph → List ℕ → ℕ
bound g outputs = fold max 0 (map (λ k. length (live_terms g outputs k) + columns_at g k) (used_terms g outputs))
