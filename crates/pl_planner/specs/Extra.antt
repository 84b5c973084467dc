-- How far back terms are computed for a session, in sessions before it.
use Rattle.std.specs.Prelude.{ℕ, ◌<◌, ◌+◌, ◌-◌, ℤ, pos, ◌-ℤ◌, unsigned_abs, List, [], ◌∷◌, ◌++◌, filter_map, Option, Some, None}
use Rattle.pl_pipeline.specs.Kind.{Kind}
use Rattle.pl_pipeline.specs.Term.{Input, Node}
use Rattle.pl_pipeline.specs.Term.Input.{BarColumn, TermInput}
use Rattle.pl_pipeline.specs.Graph.{reads_at}

-- a term that is mentioned, and the first session of it that is read
abbrev pub Ask : Type 0
Ask = ℕ × ℕ

-- where a term of the kind is computed n sessions before session s, it reads its inputs up to this one
abbrev pub back_from : List ℤ → ℕ → Kind → ℕ → ℕ
back_from days s k n = unsigned_abs (pos s -ℤ reads_at days k (pos s -ℤ pos n))

abbrev pub input_ask : ℕ → ℕ → Input → Option Ask
input_ask back size (BarColumn c) = None
input_ask back size (TermInput k) = Some (k, back + (size - 1))

abbrev pub number_asks : ℕ → Option ℕ → List Ask
number_asks n None = []
number_asks n (Some k) = (k, n) ∷ []

-- inputs are read over the window up to so many sessions before, a mask and a group on the session itself
abbrev pub asks_back : ℕ → ℕ → Node → List Ask
asks_back back n node = filter_map (input_ask back node.window) node.inputs ++ number_asks n node.mask ++ number_asks n node.group

abbrev pub asks : List ℤ → ℕ → Node → ℕ → List Ask
asks days s node n = asks_back (back_from days s node.kind n) n node

abbrev pub IsBelow : ℕ → Input → Type 0
IsBelow b (BarColumn c) = Unit {0}
IsBelow b (TermInput k) = k < b
