-- Windows within the terms of a checked pipeline are at least 1.
use Rattle.std.proofs.Common.{◌≡◌, ℕ, zero, suc, ◌≤◌, ◌==◌, nat_le, true, List, [], ◌∷◌, ◌++◌, Option, Some, None, slice_get, refl, arith}
use Rattle.std.proofs.lemmas.Bool.{and_parts}
use Rattle.std.proofs.lemmas.Bool.Decides.{nat_tests}
use Rattle.pl_spec.specs.Limits.{most_window}
use Rattle.pl_pipeline.specs.Kind as kind
use Rattle.pl_pipeline.specs.Kind.{Kind}
use Rattle.pl_terms.specs.declared.kind.WindowForm.{WindowForm}
use Rattle.pl_terms.specs.declared.kind.WindowForm.TheVariants.{Bar, LongSeries, LongColumns, Pairs, Regression, TwoColumns}
use Rattle.pl_terms.specs.Windows.{row_of}
use Rattle.pl_pipeline.specs.Table.{Pipeline}
use Rattle.pl_pipeline.specs.Term.{Term, Graph, Node, Input, BarColumn, TermInput, tree_at, input_tree, number_tree, tree_over, trees_after, term_at}
use Rattle.pl_pipeline.specs.Reaching.{HasWindows}
use Rattle.pl_terms.specs.Sorts.{has_window, form_fits, is_window_from}
use Rattle.pl_terms.specs.Checked.{IsChecked}

from-least : (least w : ℕ) → 1 ≤ least → is_window_from least w ≡ true → 1 ≤ w
from-least least w h e = let r = (and_parts (nat_le least w) (nat_le w most_window) e).0 in grind (arith, nat_tests)

exactly : (n w : ℕ) → 1 ≤ n → (w == n) ≡ true → 1 ≤ w
exactly n w h e = grind (arith, nat_tests)

form-some : (f : WindowForm) (w : ℕ) → form_fits f w ≡ true → 1 ≤ w
form-some Bar w e = exactly 1 w (omega arith) e
form-some TwoColumns w e = exactly 2 w (omega arith) e
form-some LongSeries w e = from-least 2 w (omega arith) e
form-some LongColumns w e = from-least 2 w (omega arith) e
form-some Pairs w e = from-least 2 w (omega arith) e
form-some Regression w e = from-least 2 w (omega arith) e
form-some f w e = from-least 1 w (omega arith) e

some-window : (k : Kind) (w : ℕ) → has_window k w ≡ true → 1 ≤ w
unfolding has_window
some-window (kind.Window k) w e = form-some (row_of k).form w e
some-window k w e = exactly 1 w (omega arith) e

-- ---- trees one after another

Windowed : List Term → Type 0
Windowed ts = (k : ℕ) → HasWindows (tree_at ts k)

none : Windowed []
unfolding Windowed
none k = tt

one-more : (ts : List Term) (t : Term) → Windowed ts → HasWindows t → Windowed (ts ++ t ∷ [])
unfolding Windowed
one-more [] t f h zero = h
one-more [] t f h (suc k) = tt
one-more (u ∷ us) t f h zero = f zero
one-more (u ∷ us) t f h (suc k) = one-more us t (λ j. f (suc j)) h k

input-windowed : (ts : List Term) (i : Option Input) → Windowed ts → HasWindows (input_tree ts i)
unfolding Windowed
input-windowed ts None f = tt
input-windowed ts (Some (BarColumn c)) f = tt
input-windowed ts (Some (TermInput k)) f = f k

number-windowed : (ts : List Term) (i : Option ℕ) → Windowed ts → HasWindows (number_tree ts i)
unfolding Windowed
number-windowed ts None f = tt
number-windowed ts (Some k) f = f k

tree-windowed : (ts : List Term) (n : Node) → 1 ≤ n.window → Windowed ts → HasWindows (tree_over ts n)
tree-windowed ts n h f = (
  h,
  input-windowed ts (slice_get n.inputs 0) f,
  input-windowed ts (slice_get n.inputs 1) f,
  input-windowed ts (slice_get n.inputs 2) f,
  number-windowed ts n.mask f,
  number-windowed ts n.group f,
)

after-windowed : (ts : List Term) (ns : Graph) → Windowed ts → ((k : ℕ) (n : Node) → slice_get ns k ≡ Some n → 1 ≤ n.window) → Windowed (trees_after ts ns)
after-windowed ts [] f h = f
after-windowed ts (n ∷ ns) f h =
    after-windowed (ts ++ tree_over ts n ∷ []) ns (one-more ts (tree_over ts n) f (tree-windowed ts n (h zero n refl) f)) (λ k m e. h (suc k) m e)

pub windowed : (p : Pipeline) → IsChecked p → (k : ℕ) → HasWindows (term_at p.graph k)
unfolding Windowed
windowed p c k = after-windowed [] p.graph none (λ j n e. some-window n.kind n.window (c.nodes j n e).window) k
