-- The cell of a term is what its kind gives where the asset is kept, and the empty one elsewhere.
use Rattle.std.proofs.Common.{◌≡◌, ℕ, Bool, true, false, ◌&&◌, if◌then◌else◌, ℤ, pos, List, Option, Some, None, refl, sym, ◌∙◌, ap, slice_get}
use Rattle.std.proofs.Math.Bool.{and-true}
use Rattle.pl_spec.specs.World.{World, exists}
use Rattle.pl_spec.specs.Cells.{is_true}
use Rattle.pl_pipeline.specs.Term.{Node, input_tree, trees}
use Rattle.pl_pipeline.specs.Value.{Value, Operands, Own, number_of, passes, view_of, empty, sort_over, sort_kind, kind_value}
use Rattle.pl_pipeline.specs.Value.Value.{Number}
use Rattle.pl_pipeline.specs.NodeValue.{number_part, node_operands, seen_node_operands, ReadsSteady}
use Rattle.pl_pipeline.specs.Table.{Pipeline, value_of, in_array}
use Rattle.pl_pipeline.proofs.Trees.{term_at-node}
use Rattle.pl_terms.specs.Checked.{IsChecked}
use Rattle.pl_terms.specs.declared.row.Sort.TheVariants.{Filters, Labels}
use Rattle.pl_terms.specs.Sorts.{Place, sort_at, has_mask}
use Rattle.pl_cross.specs.Arrays.{sid_in}
use Rattle.pl_values.specs.Arrays.{cell_of, empty_cell, is_kept, chosen}
use Rattle.pl_values.proofs.Typed.{optional-sort, filter-sort}
use Rattle.pl_values.proofs.Downsampled.{value-node, value-seen}
use Rattle.pl_values.proofs.Numbers.{empty_is, numbered-sort, number_is, IsNumberedTerm}

pub none-chosen : (b : Bool) (x none : ℤ) → b ≡ false → chosen b x none ≡ none
none-chosen false x none h = refl
none-chosen true x none h = absurd (let no : true ≡ false = h in cc)

module _ (w : World) (p : Pipeline) (sids : List ℕ) (ok : IsChecked p) where
  -- of a numbered term the cell is the number
  pub cell-number : (t : ℕ) → IsNumberedTerm w p ok t → (i s : ℕ) → number_of (value_of w p t (sid_in sids i) (pos s)) ≡ cell_of w p sids t i s
  unfolding cell_of
  cell-number t numbered i s = number_is w p ok t numbered (sid_in sids i) (pos s)

  module _ (k : ℕ) (n : Node) (is : slice_get p.graph k ≡ Some n) (i s : ℕ) where
    abbrev a : ℕ
    a = sid_in sids i

    abbrev pub stepped : Value
    stepped = kind_value w p.names n.kind n.window (node_operands w p.names p.graph n) a (pos s)

    passes_is : (mask : Option ℕ) → ((m : ℕ) → mask ≡ Some m → sort_at p.graph m ≡ Some Filters)
        → (exists w a (pos s) && passes (number_part w p.names p.graph mask) a (pos s)) ≡ is_kept w p sids mask i s
    passes_is None h = and-true (exists w a (pos s))
    passes_is (Some m) h = ap (λ x. exists w a (pos s) && is_true x) (cell-number m (numbered-sort w p ok m Filters (h m refl) (λ e. let bad : Filters ≡ Labels = e in cc)) i s)

    pub keeps-is : (exists w a (pos s) && passes (number_part w p.names p.graph n.mask) a (pos s)) ≡ is_kept w p sids n.mask i s
    keeps-is = passes_is n.mask (λ m e. filter-sort (sort_at p.graph m) (optional-sort p.graph (has_mask n.kind) Place.Filter n.mask m (ok.nodes k n is).mask e))

    pub empty-tree : empty (sort_over n.kind (sort_kind (input_tree (trees p.graph) (slice_get n.inputs 0)))) ≡ Number (empty_cell p k)
    empty-tree = empty_is (sort_over n.kind (sort_kind (input_tree (trees p.graph) (slice_get n.inputs 0)))) ∙ ap (λ t. Number (number_of (empty (sort_kind t)))) (sym (term_at-node p.graph k n ok.graph is))

    -- over what it reads, from wherever that is seen
    module _ (o : Operands) (reads : value_of w p k a (pos s) ≡ (if exists w a (pos s) && passes (number_part w p.names p.graph n.mask) a (pos s) then kind_value w p.names n.kind n.window o a (pos s)
        else empty (sort_over n.kind (sort_kind (input_tree (trees p.graph) (slice_get n.inputs 0)))))) where
      value-is : value_of w p k a (pos s) ≡ (if is_kept w p sids n.mask i s then kind_value w p.names n.kind n.window o a (pos s) else Number (empty_cell p k))
      value-is =
          reads
          ∙ ap (λ b. if b then kind_value w p.names n.kind n.window o a (pos s) else empty (sort_over n.kind (sort_kind (input_tree (trees p.graph) (slice_get n.inputs 0))))) keeps-is
          ∙ ap (λ v. if is_kept w p sids n.mask i s then kind_value w p.names n.kind n.window o a (pos s) else v) empty-tree

      read-gated : (x : ℤ) → in_array w.texts (kind_value w p.names n.kind n.window o a (pos s)) ≡ x → cell_of w p sids k i s ≡ chosen (is_kept w p sids n.mask i s) x (empty_cell p k)
      unfolding cell_of
      read-gated x e = ap (in_array w.texts) value-is ∙ here (is_kept w p sids n.mask i s)
        where
          here : (b : Bool) → in_array w.texts (if b then kind_value w p.names n.kind n.window o a (pos s) else Number (empty_cell p k)) ≡ chosen b x (empty_cell p k)
          here true = e
          here false = refl

    -- every kind alike: what the kind gives where the asset is kept
    pub gated : ReadsSteady p.graph n → (x : ℤ) → in_array w.texts stepped ≡ x → cell_of w p sids k i s ≡ chosen (is_kept w p sids n.mask i s) x (empty_cell p k)
    gated steady x e = read-gated (node_operands w p.names p.graph n) (value-node w p ok k n is steady a (pos s)) x e

    pub ungated : is_kept w p sids n.mask i s ≡ false → cell_of w p sids k i s ≡ empty_cell p k
    ungated h =
        read-gated (seen_node_operands w p.names p.graph n (view_of n.kind Own (pos s))) (value-seen w p ok k n is a (pos s)) _ refl
        ∙ none-chosen (is_kept w p sids n.mask i s) _ (empty_cell p k) h
