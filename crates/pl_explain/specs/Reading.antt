-- The facts of windows, and facts that are put after others.
use Rattle.std.specs.Prelude.{◌≡◌, ℕ, ◌+◌, ◌<◌, ◌≤◌, Bool, false, ◌||◌, if◌then◌else◌, ℤ, List, length, ◌++◌, map, Option, Some, None, slice_get}
use Rattle.pl_pipeline.specs.Term as term
use Rattle.pl_pipeline.specs.Term.Input.{BarColumn, TermInput}
use Rattle.std.specs.Ordering.{int_eq}
use Rattle.pl_pipeline.specs.Term.{Graph, term_at}
use Rattle.pl_pipeline.specs.Value.{Own, From, is_steady}
use Rattle.pl_terms.specs.declared.node.Input.{Input}
use Rattle.pl_terms.specs.declared.node.Input.TheVariants as input
use Rattle.pl_terms.specs.Checked.{Parts}
use Rattle.pl_terms.specs.declared.node.Node.{Node}
use Rattle.pl_terms.specs.Nodes.{input_of}
use Rattle.pl_derivation.specs.Facts as spec
use Rattle.pl_derivation.specs.Facts.{value_fact}
use Rattle.pl_derivation.specs.Facts.Fact.{Seen}
use Rattle.pl_explain.specs.declared.fact.Fact.{Fact}
use Rattle.pl_explain.specs.Keys.{fact_of}

-- The value of a term on session s, as it is seen on session v. That of a steady term is told as the value on s,
-- and so it is where both are one.
abbrev pub told_by : Bool → ℕ → ℕ → ℤ → ℤ → spec.Fact
told_by steady t a s v = value_fact t a s (if steady || int_eq s v then Own else From v)

-- an input is a steady term
abbrev pub is_steady_input : Graph → term.Input → Bool
is_steady_input g (BarColumn c) = false
is_steady_input g (TermInput t) = is_steady (term_at g t)

-- what a window over an input has of session s, where it is seen on session v
abbrev pub fact_at : Bool → term.Input → ℕ → ℤ → ℤ → spec.Fact
fact_at steady (BarColumn c) a s v = Seen c a s v
fact_at steady (TermInput t) a s v = told_by steady t a s v

-- an input stands in the graph
abbrev pub IsInGraph : Parts → Option Input → Type 0
IsInGraph c (Some (input.Term u)) = u.0 < length c.graph
IsInGraph c o = Unit {0}

-- and so do those of a node
pub record AreInGraph (c : Parts) (n : Node) : Type 0 where
  pub first : IsInGraph c (slice_get n.inputs 0)
  pub second : IsInGraph c (slice_get n.inputs 1)
  pub third : IsInGraph c (slice_get n.inputs 2)

-- the session before which a window ends that is read on session s
abbrev pub end_of : term.Input → ℕ → ℕ
end_of (BarColumn c) s = s
end_of (TermInput t) s = s + 1

-- an input's window begins at no session below 0
abbrev pub IsRoomy : Option Input → ℕ → ℕ → Type 0
IsRoomy None size s = Unit {0}
IsRoomy (Some i) size s = size ≤ end_of (input_of i) s

-- after the old facts stand these
abbrev pub ArePut : List Fact → List Fact → List spec.Fact → Type 0
ArePut old new fs = map fact_of new ≡ map fact_of old ++ fs
