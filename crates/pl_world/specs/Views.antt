-- From where a plain evaluation sees a term, and what it sees.
use Rattle.std.specs.Prelude.{ℕ, ◌<◌, ◌≤◌, if◌then◌else◌, ℤ, pos, List, [], ◌∷◌, length, Option, Some, None, option_map, unwrap_or}
use Rattle.pl_spec.specs.Rounding.{MISSING}
use Rattle.pl_pipeline.specs.Kind.{Kind}
use Rattle.pl_pipeline.specs.Term.{term_at}
use Rattle.pl_pipeline.specs.Value.{View, Own, From, seen}
use Rattle.pl_pipeline.specs.Table.{in_array}
use Rattle.pl_terms.specs.declared.node.Input.{Input}
use Rattle.pl_terms.specs.declared.node.Input.TheVariants as input
use Rattle.pl_terms.specs.Nodes.{input_of}
use Rattle.pl_terms.specs.Checked.{Parts, pipeline_of}
use Rattle.pl_values.specs.Views.{input_seen, keeps_kind}
use Rattle.pl_world.specs.declared.world.World.{World}
use Rattle.pl_world.specs.Worlds.{world_of}

-- from its own session, or from a session
abbrev pub view_at : Option ℕ → View
view_at None = Own
view_at (Some v) = From (pos v)

-- what is seen for session s is seen from no earlier session
abbrev pub IsSeenFrom : World → Option ℕ → ℕ → Type 0
IsSeenFrom w None s = Unit {0}
IsSeenFrom w (Some v) s = (s ≤ v) × (v < length w.sessions.now)

-- the session from which a formula sees its windows: its own where it keeps its values
abbrev pub window_view : Kind → Option ℕ → ℕ → ℕ
window_view k view s = if keeps_kind k then s else unwrap_or view s

-- from where an operation sees what it is of
abbrev pub operand_view : Kind → Option ℕ → Option ℕ
operand_view k view = if keeps_kind k then None else view

-- the value of term t for asset a on a session as it is seen, as arrays hold it
abbrev pub seen_in : World → Parts → ℕ → Option ℕ → ℕ → ℕ → ℤ
seen_in w c t view a session =
    in_array (world_of w).texts (seen (world_of w) (pipeline_of c).names (term_at (pipeline_of c).graph t) (view_at view) a (pos session))

abbrev pub input_seen_in : World → Parts → Option Input → Option ℕ → ℕ → ℕ → ℤ
input_seen_in w c (Some (input.Term u)) view a session = seen_in w c u.0 view a session
input_seen_in w c o view a session = MISSING

abbrev pub window_seen_in : World → Parts → ℕ → Option Input → Option ℕ → ℕ → ℕ → List ℤ
window_seen_in w c size o view a session = input_seen (world_of w) (pipeline_of c) (a ∷ []) size (option_map input_of o) (view_at view) 0 session
