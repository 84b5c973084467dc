-- What may stand in a window is the same from wherever it is seen.
use Rattle.std.proofs.Common.{◌≡◌, ℕ, true, false, ◌&&◌, length, Option, Some, None, slice_get, refl, sym, ◌∙◌, ap}
use Rattle.std.proofs.lemmas.Bool.{and_from, or_left, or_right}
use Rattle.pl_spec.specs.declared.Column.{Column}
use Rattle.pl_pipeline.specs.Kind as kind
use Rattle.pl_pipeline.specs.Kind.{Kind, PointKind}
use Rattle.pl_pipeline.specs.declared.WindowKind.{WindowKind}
use Rattle.pl_pipeline.specs.declared.WindowKind.TheVariants as window
use Rattle.pl_pipeline.specs.Term.{Term, Node, Graph, Input, BarColumn, TermInput, IsGraph, input_tree, trees, term_at}
use Rattle.pl_pipeline.specs.Value.{keeps_point, keeps_window, is_bars, is_steady}
use Rattle.pl_pipeline.specs.NodeValue.{ReadsSteady}
use Rattle.pl_pipeline.proofs.Trees.{term_at-node}
use Rattle.pl_terms.specs.Windows.{row_of}
use Rattle.pl_terms.specs.Sorts.{is_windowed, is_safe_kind, is_safe_over, IsSafe, of_kind, of_inputs, of_terms, ReadsSafe}
use Rattle.pl_terms.specs.Checked.{IsChecked}
use Rattle.pl_pipeline.specs.Table.{Pipeline}

-- the formulas over which a window may stand are those that keep their values
pub keeps-safe : (k : WindowKind) → (row_of k).is_safe ≡ keeps_window k
keeps-safe window.Latest = refl
keeps-safe window.Returns = refl
keeps-safe window.All = refl
keeps-safe k = refl

module _ (g : Graph) (ok : IsGraph g) where
  kind-steady : (k : Kind) (size : ℕ) (x y z m p : Term) → is_safe_kind k ≡ true → is_steady (Term.node k size x y z m p) ≡ true
  unfolding is_safe_kind
  kind-steady (kind.Window k) size x y z m p h = or_left (keeps_window k) _ (sym (keeps-safe k) ∙ h)
  kind-steady (kind.Point k) size x y z m p h = or_left (keeps_point k) _ h
  kind-steady k size x y z m p h = refl

  over-steady : (k : Kind) (size : ℕ) (x y z m p : Term) → is_safe_over k ≡ true → is_steady x ≡ true → is_steady y ≡ true → is_steady z ≡ true
      → is_steady (Term.node k size x y z m p) ≡ true
  unfolding is_safe_over
  over-steady (kind.Point k) size x y z m p h e f i =
      or_right (keeps_point k) _ (and_from (is_steady x && is_steady y) (is_steady z) (and_from (is_steady x) (is_steady y) e f) i)
  over-steady (kind.Window k) size x y z m p h e f i = cc
  over-steady k size x y z m p h e f i = refl

  input-steady : (o : Option Input) → ((j : ℕ) → o ≡ Some (TermInput j) → is_steady (term_at g j) ≡ true) → is_steady (input_tree (trees g) o) ≡ true
  input-steady None f = refl
  input-steady (Some (BarColumn c)) f = refl
  input-steady (Some (TermInput j)) f = f j refl

  -- a window over steady terms alone
  window-steady : (k : Kind) (size : ℕ) (x y z m p : Term) → is_windowed k ≡ true → is_steady x ≡ true → is_steady y ≡ true → is_steady z ≡ true
      → is_bars x ≡ false → is_bars y ≡ false → is_bars z ≡ false → is_steady (Term.node k size x y z m p) ≡ true
  window-steady (kind.Window k) size x y z m p h e f i a b c =
      or_right (keeps_window k) _ (rw (e, f, i, a, b, c) refl)
  window-steady k size x y z m p h e f i a b c = cc

  -- what may stand in a window is a node, and no bar column
  safe-no_bars : (k : ℕ) → IsSafe g k → is_bars (term_at g k) ≡ false
  safe-no_bars k (of_kind n e h) = ap is_bars (term_at-node g k n ok e)
  safe-no_bars k (of_inputs n e h f) = ap is_bars (term_at-node g k n ok e)
  safe-no_bars k (of_terms n e h b f) = ap is_bars (term_at-node g k n ok e)

  input-no_bars : (o : Option Input) → ((c : Column) → o ≡ Some (BarColumn c) → ⊥) → ((j : ℕ) → o ≡ Some (TermInput j) → IsSafe g j) → is_bars (input_tree (trees g) o) ≡ false
  input-no_bars None b f = refl
  input-no_bars (Some (BarColumn c)) b f = absurd (b c refl)
  input-no_bars (Some (TermInput j)) b f = safe-no_bars j (f j refl)

  pub safe-steady : (k : ℕ) → IsSafe g k → is_steady (term_at g k) ≡ true
  safe-steady k (of_kind n e h) = rw (term_at-node g k n ok e) (kind-steady n.kind n.window _ _ _ _ _ h)
  safe-steady k (of_inputs n e h f) =
      rw (term_at-node g k n ok e)
      (over-steady n.kind n.window _ _ _ _ _ h
      (input-steady (slice_get n.inputs 0) (λ j at. safe-steady j (f 0 j at)))
      (input-steady (slice_get n.inputs 1) (λ j at. safe-steady j (f 1 j at)))
      (input-steady (slice_get n.inputs 2) (λ j at. safe-steady j (f 2 j at))))
  safe-steady k (of_terms n e h b f) =
      rw (term_at-node g k n ok e)
      (window-steady n.kind n.window _ _ _ _ _ h
      (input-steady (slice_get n.inputs 0) (λ j at. safe-steady j (f 0 j at)))
      (input-steady (slice_get n.inputs 1) (λ j at. safe-steady j (f 1 j at)))
      (input-steady (slice_get n.inputs 2) (λ j at. safe-steady j (f 2 j at)))
      (input-no_bars (slice_get n.inputs 0) (b 0) (f 0))
      (input-no_bars (slice_get n.inputs 1) (b 1) (f 1))
      (input-no_bars (slice_get n.inputs 2) (b 2) (f 2)))

  -- so the windows of a node over what may stand in them hold what is steady
  pub safe-reads : (n : Node) → ReadsSafe g n → ReadsSteady g n
  safe-reads n h k e i j at = safe-steady j (h (ap is_windowed e) i j at)

pub checked-steady : (p : Pipeline) → IsChecked p → (k : ℕ) (n : Node) → slice_get p.graph k ≡ Some n → ReadsSteady p.graph n
checked-steady p ok k n e = ok.steady k n e
