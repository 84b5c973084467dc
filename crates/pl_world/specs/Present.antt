-- How many numbers beside bars a pipeline reads.
use Rattle.std.specs.Prelude.{◌≡◌, ℕ, suc, ◌-◌, Bool, true, false, ◌&&◌, if◌then◌else◌, pos, List, length, Option, Some, None, slice_get, count_by, sum_by}
use Rattle.std.specs.List.{range_with_len, list_any}
use Rattle.pl_pipeline.specs.Kind.{Kind}
use Rattle.pl_pipeline.specs.Kind.Kind.{Number}
use Rattle.pl_spec.specs.Rounding.{is_present}
use Rattle.pl_pipeline.specs.Table.{Pipeline, value_of}
use Rattle.pl_pipeline.specs.Term.{Node}
use Rattle.pl_pipeline.specs.Value.{number_of}
use Rattle.pl_spec.specs.World.{World, exists, known_number}
use Rattle.pl_spec.specs.declared.Figure.{Figure}
use Rattle.pl_terms.specs.Uses.{is_used}

abbrev pub is_number_kind : Kind → Bool
is_number_kind (Number figure name) = true
is_number_kind k = false

abbrev pub is_number_node : Option Node → Bool
is_number_node None = false
is_number_node (Some n) = is_number_kind n.kind

-- term t is used, and it is a number beside bars
abbrev pub is_number_term : Pipeline → ℕ → Bool
is_number_term p t = is_used p t && is_number_node (slice_get p.graph t)

-- so it is, this is read of the number, and its name is the one with that number
pub record IsNumberUnder (p : Pipeline) (t : ℕ) (figure : Figure) (name : ℕ) : Type 0 where
  pub node : Node
  pub at : slice_get p.graph t ≡ Some node
  pub kind : node.kind ≡ Number figure name
  pub own : is_number_term p t ≡ true

-- on how many of the sessions from .. to the term has a number for asset a, which then exists
abbrev pub present_on : World → Pipeline → ℕ → ℕ → ℕ → ℕ → ℕ
present_on w p from to t a =
    count_by (λ s. is_present (number_of (value_of w p t a (pos s)))) (range_with_len from (suc to - from))

-- the same for all assets; a term that is no number of the pipeline counts nothing
abbrev pub present_in : World → Pipeline → ℕ → ℕ → ℕ → ℕ
present_in w p from to t =
    if is_number_term p t then sum_by (λ x. present_on w p from to t x.sid) w.assets else 0

-- how many cells of numbers are present on the sessions from .. to
unfoldable pub present_numbers : World → Pipeline → ℕ → ℕ → ℕ
present_numbers w p from to = sum_by (present_in w p from to) (range_with_len 0 (length p.graph))

-- a used term is a number beside bars
abbrev pub has_numbers : Pipeline → Bool
has_numbers p = list_any (is_number_term p) (range_with_len 0 (length p.graph))

-- ---- how they are counted

-- on how many of the sessions from .. to asset a exists and has a number under the name
abbrev pub known_on : World → Figure → ℕ → ℕ → List ℕ → ℕ → ℕ
known_on w f from to name a =
    count_by (λ s. exists w a (pos s) && is_present (known_number w f name a (pos s))) (range_with_len from (suc to - from))
