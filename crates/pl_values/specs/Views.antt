-- What terms are seen as from somewhere: the cells that a program computes anew.
use Rattle.std.specs.Prelude.{◌≡◌, ℕ, ◌+◌, ◌≤◌, Bool, true, false, ℤ, pos, List, [], ◌∷◌, Option, Some, None, slice_get, All}
use Rattle.pl_spec.specs.Rounding.{MISSING, IsCell}
use Rattle.pl_spec.specs.World.{World}
use Rattle.pl_pipeline.specs.Kind as spec
use Rattle.pl_pipeline.specs.Kind.{Kind, PointKind}
use Rattle.pl_pipeline.specs.declared.WindowKind.{WindowKind}
use Rattle.pl_pipeline.specs.Term.{Input, Node, term_at}
use Rattle.pl_pipeline.specs.Term.Input.{BarColumn, TermInput}
use Rattle.pl_pipeline.specs.Value.{View, Own, seen_from, view_of, keeps_window, keeps_point, seen, seen_window}
use Rattle.pl_pipeline.specs.Table.{Pipeline, in_array}
use Rattle.pl_pointwise.specs.Operands.{IsOperation, AreOperands, operation}
use Rattle.pl_cross.specs.Arrays.{sid_in}
use Rattle.pl_values.specs.Arrays.{cell_of, empty_cell, is_kept, chosen, window_up_to}
use Rattle.pl_values.specs.Families.{windowed, TakesWindows}
use Rattle.pl_values.specs.Laws.{OfNodes}

-- the value of term t for the asset in place i on session s in a view, as arrays hold it
unfoldable pub seen_of : World → Pipeline → List ℕ → ℕ → View → ℕ → ℕ → ℤ
seen_of w p sids t view i s = in_array w.texts (seen w p.names (term_at p.graph t) view (sid_in sids i) (pos s))

-- the window of an input, all of it in a view
abbrev pub input_seen : World → Pipeline → List ℕ → ℕ → Option Input → View → ℕ → ℕ → List ℤ
input_seen w p sids size None view i s = []
input_seen w p sids size (Some (BarColumn c)) view i s = seen_window w c size (sid_in sids i) (pos s) (seen_from view (pos s))
input_seen w p sids size (Some (TermInput t)) view i s = window_up_to (seen_of w p sids t view i) size s

-- and its value on the session
abbrev pub operand_seen : World → Pipeline → List ℕ → Option Input → View → ℕ → ℕ → ℤ
operand_seen w p sids (Some (TermInput t)) view i s = seen_of w p sids t view i s
operand_seen w p sids o view i s = MISSING

-- the windows of a node's inputs in a view, in order
pub record AreWindowsSeen (w : World) (p : Pipeline) (sids : List ℕ) (n : Node) (view : View) (i s : ℕ)
    (a b c : List ℤ) : Type 0 where
  pub first : a ≡ input_seen w p sids n.window (slice_get n.inputs 0) view i s
  pub second : b ≡ input_seen w p sids n.window (slice_get n.inputs 1) view i s
  pub third : c ≡ input_seen w p sids n.window (slice_get n.inputs 2) view i s
  pub first_cells : All IsCell a
  pub second_cells : All IsCell b
  pub third_cells : All IsCell c

-- and their values on the session
pub record AreOperandsSeen (w : World) (p : Pipeline) (sids : List ℕ) (n : Node) (view : View) (i s : ℕ)
    (x y z : ℤ) : Type 0 where
  pub first : x ≡ operand_seen w p sids (slice_get n.inputs 0) view i s
  pub second : y ≡ operand_seen w p sids (slice_get n.inputs 1) view i s
  pub third : z ≡ operand_seen w p sids (slice_get n.inputs 2) view i s
  pub first_cell : IsCell x
  pub second_cell : IsCell y
  pub third_cell : IsCell z

-- terms of the kind keep the values of their own sessions: all but formulas and operations that move
abbrev pub keeps_kind : Kind → Bool
keeps_kind (spec.Window f) = keeps_window f
keeps_kind (spec.Point f) = keeps_point f
keeps_kind k = true

-- what keeps its values is seen as it is, from wherever
abbrev pub KeptCells : Type 0
KeptCells = OfNodes (λ w p sids k n i s. (view : View) → keeps_kind n.kind ≡ true
    → seen_of w p sids k view i s ≡ cell_of w p sids k i s)

-- the empty one where the asset does not exist, or the mask is false
abbrev pub UnkeptSeen : Type 0
UnkeptSeen = OfNodes (λ w p sids k n i s. (view : View) → is_kept w p sids n.mask i s ≡ false
    → seen_of w p sids k view i s ≡ empty_cell p k)

-- and each term from its own session
abbrev pub OwnCells : Type 0
OwnCells = (w : World) (p : Pipeline) (sids : List ℕ) (t i s : ℕ) → seen_of w p sids t Own i s ≡ cell_of w p sids t i s

-- a formula or a filter over windows, each of which is seen from one session
abbrev pub SeenWindowCells : Type 0
SeenWindowCells = OfNodes (λ w p sids k n i s. (f : WindowKind) (view : View) (a b c : List ℤ)
    → n.kind ≡ spec.Window f → n.window ≤ s + 1
    → AreWindowsSeen w p sids n (view_of n.kind view (pos s)) i s a b c
    → TakesWindows n.kind a b c
    × (seen_of w p sids k view i s ≡ chosen (is_kept w p sids n.mask i s) (windowed n.kind a b c) (empty_cell p k)))

-- an operation that moves, over what its operands are seen as
abbrev pub SeenPointCells : Type 0
SeenPointCells = OfNodes (λ w p sids k n i s. (f : PointKind) (view : View) (x y z : ℤ)
    → n.kind ≡ spec.Point f → keeps_point f ≡ false → AreOperandsSeen w p sids n view i s x y z
    → IsOperation n.kind × AreOperands n.kind (x ∷ []) (y ∷ []) (z ∷ []) 1
    × (seen_of w p sids k view i s ≡ chosen (is_kept w p sids n.mask i s) (operation n.kind x y z) (empty_cell p k)))
