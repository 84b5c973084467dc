-- Terms that move: neither filters nor masks do, and they keep no values.
use Rattle.std.proofs.Common.{◌≡◌, ℕ, Bool, true, false, not, cond, Some, refl, sym, ◌∙◌, ap, slice_get}
use Rattle.std.proofs.lemmas.Bool.{or_left, true≢false}
use Rattle.pl_pipeline.specs.Cones.{moves_at}
use Rattle.pl_pipeline.specs.Kind.{Kind, PointKind}
use Rattle.pl_pipeline.specs.Kind.Kind.{Window, Point}
use Rattle.pl_pipeline.specs.Kind.PointKind.{Sign}
use Rattle.pl_pipeline.specs.Table.{Pipeline}
use Rattle.pl_pipeline.specs.Term.{Term, Node, Graph, IsGraph, term_at}
use Rattle.pl_pipeline.specs.Value.{is_steady, is_point_filter, is_window_filter, keeps_point, keeps_window}
use Rattle.pl_pipeline.specs.declared.WindowKind.{WindowKind}
use Rattle.pl_pipeline.proofs.Trees.{term_at-node}
use Rattle.pl_terms.specs.Checked.{IsChecked}
use Rattle.pl_terms.specs.declared.row.Sort.TheVariants.{Factors, Filters}
use Rattle.pl_terms.specs.Sorts.{Place, has_mask, is_downsampled, sort_at, sort_of}
use Rattle.pl_terms.proofs.TermSorts.{kind-own, sorted-there}
use Rattle.pl_values.specs.Views.{keeps_kind}
use Rattle.pl_values.proofs.Typed.{filter-sort, optional-sort}

filters : (b : Bool) → cond b Filters Factors ≡ Filters → b ≡ true
filters true e = refl
filters false e = absurd (let no : Factors ≡ Filters = e in cc)

window-keeps : (f : WindowKind) → is_window_filter f ≡ true → keeps_window f ≡ true
window-keeps f e = rw e refl

point-keeps : (f : PointKind) → is_point_filter f ≡ true → keeps_point f ≡ true
point-keeps Sign e = refl
point-keeps f e = e

filter-keeps : (k : Kind) → (is_downsampled k ≡ false → sort_of k ≡ Filters) → keeps_kind k ≡ true
unfolding sort_of
filter-keeps (Window f) e = window-keeps f (filters (is_window_filter f) (e refl))
filter-keeps (Point f) e = point-keeps f (filters (is_point_filter f) (e refl))
filter-keeps k e = refl

kind-steady : (k : Kind) (size : ℕ) (x y z m p : Term) → keeps_kind k ≡ true → is_steady (Term.node k size x y z m p) ≡ true
kind-steady (Window f) size x y z m p e = or_left (keeps_window f) _ e
kind-steady (Point f) size x y z m p e = or_left (keeps_point f) _ e
kind-steady k size x y z m p e = refl

module _ (g : Graph) (ok : IsGraph g) where
  keeps-steady : (k : ℕ) (n : Node) → slice_get g k ≡ Some n → keeps_kind n.kind ≡ true → is_steady (term_at g k) ≡ true
  keeps-steady k n e h = ap is_steady (term_at-node g k n ok e) ∙ kind-steady n.kind n.window _ _ _ _ _ h

  -- a filter is steady
  pub filter-steady : (k : ℕ) → sort_at g k ≡ Some Filters → is_steady (term_at g k) ≡ true
  filter-steady k s =
      let m = sorted-there g k Filters s in
      keeps-steady k m.0 m.1 (filter-keeps m.0.kind (λ own. ap sort_of (sym (kind-own g k m.0 m.1 own)) ∙ m.2))

  -- what moves does not keep its values
  pub moving-kind : (k : ℕ) (n : Node) → slice_get g k ≡ Some n → moves_at g k ≡ true → keeps_kind n.kind ≡ false
  moving-kind k n e h = here (keeps_kind n.kind) refl
    where
      here : (b : Bool) → keeps_kind n.kind ≡ b → b ≡ false
      here false q = refl
      here true q = absurd (true≢false (sym h ∙ ap not (keeps-steady k n e q)))

-- so is a mask
pub mask-steady : (p : Pipeline) → IsChecked p → (k : ℕ) (n : Node) (m : ℕ) → slice_get p.graph k ≡ Some n → n.mask ≡ Some m → is_steady (term_at p.graph m) ≡ true
mask-steady p ok k n m at e =
    filter-steady p.graph ok.graph m (filter-sort (sort_at p.graph m) (optional-sort p.graph (has_mask n.kind) Place.Filter n.mask m (ok.nodes k n at).mask e))

pub mask-still : (p : Pipeline) → IsChecked p → (k : ℕ) (n : Node) (m : ℕ) → slice_get p.graph k ≡ Some n → n.mask ≡ Some m → moves_at p.graph m ≡ true → ⊥
mask-still p ok k n m at e moves = true≢false (sym moves ∙ ap not (mask-steady p ok k n m at e))
