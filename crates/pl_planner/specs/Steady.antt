-- Which terms are the same from wherever they are seen, by what is known of those with lower numbers.
use Rattle.std.specs.Prelude.{◌≡◌, ℕ, ◌<◌, not, if◌then◌else◌, Bool, true, false, List, get_or}
use Rattle.std.specs.List.{list_all}
use Rattle.pl_pipeline.specs.Kind.{Kind}
use Rattle.pl_pipeline.specs.Kind.Kind.{Window, Point}
use Rattle.pl_pipeline.specs.Term.{Graph, Node, Input, term_at}
use Rattle.pl_pipeline.specs.Term.Input.{BarColumn, TermInput}
use Rattle.pl_pipeline.specs.Cones.{is_windowed}
use Rattle.pl_pipeline.specs.Value.{is_steady, keeps_window, keeps_point}

-- a formula or an operation that moves where what it is of does
abbrev pub follows_inputs : Kind → Bool
follows_inputs (Window k) = not (keeps_window k)
follows_inputs (Point k) = not (keeps_point k)
follows_inputs k = false

-- bars in a window move
abbrev pub is_still_input : List Bool → Bool → Input → Bool
is_still_input steady windowed (BarColumn c) = not windowed
is_still_input steady windowed (TermInput k) = get_or steady k false

abbrev pub is_still : List Bool → Node → Bool
is_still steady n =
    if follows_inputs n.kind then list_all (is_still_input steady (is_windowed n.kind)) n.inputs else true

-- the marks of the terms below n are those of the steady ones
abbrev pub AreSteady : Graph → ℕ → List Bool → Type 0
AreSteady g n steady = (k : ℕ) → k < n → get_or steady k false ≡ is_steady (term_at g k)
