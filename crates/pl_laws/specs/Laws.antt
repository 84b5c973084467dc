-- The laws of the definitions, each the contract of a function.
use Rattle.std.specs.Prelude.{◌≡◌, true, ℕ, suc, ◌<◌, ◌≤◌, ◌++◌, ℤ, pos, ◌≤ℤ◌, List, [], ◌∷◌, length, Some, slice_get}
use Rattle.pl_spec.specs.Rounding.{IsNearest, div_round, IsRoot, isqrt}
use Rattle.pl_pipeline.specs.Graph.{Used, contains, used_terms}
use Rattle.pl_spec.specs.Order.{IsByDay, by_day}
use Rattle.pl_pipeline.specs.Table.{Pipeline, table}
use Rattle.pl_spec.specs.declared.Column.{Column}
use Rattle.pl_spec.specs.World.{World, IsWorld, Adjustment, events_of, exists}
use Rattle.pl_spec.specs.Window.{bar_window, raw_window}
use Rattle.pl_spec.specs.Agree.{Agree}
use Rattle.pl_pipeline.specs.Kind.{Kind}
use Rattle.pl_pipeline.specs.Term.{Term, Node, Graph, IsGraph, term_at}
use Rattle.pl_pipeline.specs.Term.Term.{absent, node}
use Rattle.pl_pipeline.specs.NodeValue.{meaning_of, node_value, ReadsSteady}
use Rattle.pl_pipeline.specs.Value.{Meaning, number_of, holds, window_of, value}
use Rattle.pl_pipeline.specs.Value.Part.{Values}

-- later data changes no value: of every term, for every sid, at every session up to d
abbrev pub ValuesAgree : Type 0
ValuesAgree = (w v : World) (d day : ℤ) → IsWorld w → IsWorld v → Agree w v d day
    → (names : List (List ℕ)) (t : Term) (a : ℕ) (s : ℤ) → s ≤ℤ d → value w names t a s ≡ value v names t a s

-- there is one nearest number, and div_round is it
abbrev pub RoundingIsExact : Type 0
RoundingIsExact = (a : ℤ) (b : ℕ) (q : ℤ) → 0 < b → IsNearest a b (div_round a b) × (IsNearest a b q → q ≡ div_round a b)

-- and no row of the table up to d
abbrev pub TablesAgree : Type 0
TablesAgree = (w v : World) (d day : ℤ) → IsWorld w → IsWorld v → Agree w v d day
    → (p : Pipeline) (from to : ℕ) → pos to ≤ℤ d → table w p from to ≡ table v p from to

-- two numbers of a graph are one where their terms are equal
abbrev pub TermsAreDistinct : Type 0
TermsAreDistinct = (g : Graph) → IsGraph g → (j k : ℕ) → j < length g → k < length g → term_at g j ≡ term_at g k → j ≡ k

-- the order of the adjustments is told by what it keeps
abbrev pub OrderIsOne : Type 0
OrderIsOne = (rows sorted : List Adjustment) → IsByDay rows (by_day rows) × (IsByDay rows sorted → sorted ≡ by_day rows)

-- and adjustments that stand by day already may come first
abbrev pub OrderIsKept : Type 0
OrderIsKept = (rows more : List Adjustment) → by_day (by_day rows ++ more) ≡ by_day (rows ++ more)

-- there is one greatest number whose square is at most v, and isqrt is it
abbrev pub RootIsGreatest : Type 0
RootIsGreatest = (v r : ℕ) → IsRoot v (isqrt v) × (IsRoot v r → r ≡ isqrt v)

-- the list of used terms has exactly the used terms of the graph
abbrev pub UsedAreListed : Type 0
UsedAreListed = (g : Graph) (outputs : List ℕ) → IsGraph g → (k : ℕ)
    → (contains (used_terms g outputs) k ≡ true → Used g outputs k) × (k < length g → Used g outputs k → contains (used_terms g outputs) k ≡ true)

-- without events, a window over a bar column is the raw bars
abbrev pub RawWithoutEvents : Type 0
RawWithoutEvents = (w : World) (c : Column) (size a : ℕ) (d : ℤ) → events_of w a ≡ [] → bar_window w c size a d ≡ raw_window w c size a d

-- a window of one session over a term is the term's value
abbrev pub WindowOfOne : Type 0
WindowOfOne = (w : World) (term : Meaning) (a : ℕ) (d : ℤ) → window_of w 1 (Values term) a d ≡ number_of (term a d) ∷ []

-- a mask that is true of every existing asset changes no value
abbrev pub OpenMasksChangeNothing : Type 0
OpenMasksChangeNothing = (w : World) (names : List (List ℕ)) (mask : Term)
    → ((b : ℕ) (s : ℤ) → exists w b s ≡ true → holds (value w names mask b s) ≡ true)
    → (kind : Kind) (size : ℕ) (x y z group : Term) (a : ℕ) (d : ℤ)
    → value w names (node kind size x y z mask group) a d ≡ value w names (node kind size x y z absent group) a d

-- the tables of two pieces of a range, one after the other, are the table of the range: a run may be cut
-- anywhere
abbrev pub TablesConcatenate : Type 0
TablesConcatenate = (w : World) (p : Pipeline) (from mid to : ℕ) → from ≤ suc mid → mid ≤ to
    → table w p from to ≡ table w p from mid ++ table w p (suc mid) to

-- the equation by which a program computes term after term: a numbered term is worth what its node gives over
-- lower numbers, where its windows hold bars or steady terms
abbrev pub NodesUnfold : Type 0
NodesUnfold = (w : World) (names : List (List ℕ)) (g : Graph) (k : ℕ) (n : Node) → IsGraph g → slice_get g k ≡ Some n
    → ReadsSteady g n
    → (a : ℕ) (d : ℤ) → meaning_of w names g k a d ≡ node_value w names g n a d
