-- What is told of a term's inputs tells whether it is steady.
use Rattle.std.proofs.Common.{◌≡◌, ℕ, ◌+◌, ◌<◌, ◌≤◌, ◌&&◌, ◌||◌, cond, not, Bool, true, false, List, [], ◌∷◌, length, get_or, set, Option, Some, slice_get, refl, sym, ◌∙◌, ap, arith, inl, inr, get_or-set_same, get_or-set_other}
use Rattle.std.specs.List.{list_all}
use Rattle.std.proofs.lemmas.Bool.{cases_eq}
use Rattle.std.proofs.lemmas.Option.{slice_get-get_or}
use Rattle.pl_pipeline.specs.Kind as kind
use Rattle.pl_pipeline.specs.Kind.{Kind}
use Rattle.pl_pipeline.specs.Term.{Term, Node, Graph, Input, IsGraph, input_tree, number_tree, trees, term_at}
use Rattle.pl_pipeline.specs.Term.Input.{BarColumn, TermInput}
use Rattle.pl_pipeline.specs.Cones.{is_windowed}
use Rattle.pl_pipeline.specs.Value.{is_steady, is_bars, keeps_window, keeps_point}
use Rattle.pl_pipeline.proofs.Trees.{term_at-node}
use Rattle.pl_terms.specs.Rows.{kind_row}
use Rattle.pl_planner.specs.Steady.{follows_inputs, is_still_input, is_still, AreSteady}

-- three places, each steady and no bars
three : (a p b q c r : Bool) → ((a && not p) && ((b && not q) && ((c && not r) && true))) ≡ (((a && b) && c) && not ((p || q) || r))
three false p b q c r = refl
three true true false q c r = refl
three true true true q false r = refl
three true true true q true r = refl
three true false false q c r = refl
three true false true true false r = refl
three true false true true true r = refl
three true false true false false r = refl
three true false true false true true = refl
three true false true false true false = refl

plain : (a b c : Bool) → (a && (b && (c && true))) ≡ ((a && b) && c)
plain false b c = refl
plain true false c = refl
plain true true false = refl
plain true true true = refl

and-true : (a : Bool) → (a && true) ≡ a
and-true true = refl
and-true false = refl

module _ (g : Graph) (ok : IsGraph g) (k : ℕ) (inside : k < length g) (steady : List Bool) (are : AreSteady g k steady) (n : Node) where
  abbrev tree : Option Input → Term
  tree o = input_tree (trees g) o

  no-bars : (j : ℕ) → j < k → is_bars (term_at g j) ≡ false
  no-bars j h =
      let at : slice_get g j ≡ Some (get_or g j n) = slice_get-get_or g j n (omega arith) in
      ap is_bars (term_at-node g j (get_or g j n) ok at)

  abbrev Below : Input → Type 0
  Below x = (j : ℕ) → x ≡ TermInput j → j < k

  -- of an input of a window, and of an operation
  in-window : (x : Input) → Below x → is_still_input steady true x ≡ (is_steady (tree (Some x)) && not (is_bars (tree (Some x))))
  in-window (BarColumn c) h = refl
  in-window (TermInput j) h =
      are j (h j refl) ∙ sym (and-true (is_steady (term_at g j))) ∙ ap (λ b. is_steady (term_at g j) && not b) (sym (no-bars j (h j refl)))

  in-operation : (x : Input) → Below x → is_still_input steady false x ≡ is_steady (tree (Some x))
  in-operation (BarColumn c) h = refl
  in-operation (TermInput j) h = are j (h j refl)

  abbrev AllBelow : List Input → Type 0
  AllBelow is = (i j : ℕ) → slice_get is i ≡ Some (TermInput j) → j < k

  below-at : (is : List Input) → AllBelow is → (i : ℕ) (x : Input) → slice_get is i ≡ Some x → Below x
  below-at is low i x e j f = low i j (e ∙ ap Some f)

  abbrev still_at : Option Input → Bool
  still_at o = is_steady (tree o) && not (is_bars (tree o))

  windows : (is : List Input) → length is ≤ 3 → AllBelow is
      → list_all (is_still_input steady true) is ≡ (still_at (slice_get is 0) && (still_at (slice_get is 1) && (still_at (slice_get is 2) && true)))
  windows [] few low = refl
  windows (x ∷ []) few low = ap (λ b. b && true) (in-window x (below-at (x ∷ []) low 0 x refl))
  windows (x ∷ y ∷ []) few low =
      ap (λ b. b && (is_still_input steady true y && true)) (in-window x (below-at (x ∷ y ∷ []) low 0 x refl))
      ∙ ap (λ b. still_at (Some x) && (b && true)) (in-window y (below-at (x ∷ y ∷ []) low 1 y refl))
  windows (x ∷ y ∷ z ∷ []) few low =
      ap (λ b. b && (is_still_input steady true y && (is_still_input steady true z && true))) (in-window x (below-at (x ∷ y ∷ z ∷ []) low 0 x refl))
      ∙ ap (λ b. still_at (Some x) && (b && (is_still_input steady true z && true))) (in-window y (below-at (x ∷ y ∷ z ∷ []) low 1 y refl))
      ∙ ap (λ b. still_at (Some x) && (still_at (Some y) && (b && true))) (in-window z (below-at (x ∷ y ∷ z ∷ []) low 2 z refl))
  windows (x ∷ y ∷ z ∷ v ∷ is) few low = absurd (omega arith)

  abbrev steady_at : Option Input → Bool
  steady_at o = is_steady (tree o)

  operations : (is : List Input) → length is ≤ 3 → AllBelow is
      → list_all (is_still_input steady false) is ≡ (steady_at (slice_get is 0) && (steady_at (slice_get is 1) && (steady_at (slice_get is 2) && true)))
  operations [] few low = refl
  operations (x ∷ []) few low = ap (λ b. b && true) (in-operation x (below-at (x ∷ []) low 0 x refl))
  operations (x ∷ y ∷ []) few low =
      ap (λ b. b && (is_still_input steady false y && true)) (in-operation x (below-at (x ∷ y ∷ []) low 0 x refl))
      ∙ ap (λ b. steady_at (Some x) && (b && true)) (in-operation y (below-at (x ∷ y ∷ []) low 1 y refl))
  operations (x ∷ y ∷ z ∷ []) few low =
      ap (λ b. b && (is_still_input steady false y && (is_still_input steady false z && true))) (in-operation x (below-at (x ∷ y ∷ z ∷ []) low 0 x refl))
      ∙ ap (λ b. steady_at (Some x) && (b && (is_still_input steady false z && true))) (in-operation y (below-at (x ∷ y ∷ z ∷ []) low 1 y refl))
      ∙ ap (λ b. steady_at (Some x) && (steady_at (Some y) && (b && true))) (in-operation z (below-at (x ∷ y ∷ z ∷ []) low 2 z refl))
  operations (x ∷ y ∷ z ∷ v ∷ is) few low = absurd (omega arith)

  keeps-or : (b s l : Bool) → l ≡ s → cond (not b) l true ≡ (b || s)
  keeps-or true s l e = refl
  keeps-or false s l e = e

  by-kind : (q : Kind) (size : ℕ) (m p : Term) → length n.inputs ≤ 3 → AllBelow n.inputs
      → cond (follows_inputs q) (list_all (is_still_input steady (is_windowed q)) n.inputs) true
      ≡ is_steady (Term.node q size (tree (slice_get n.inputs 0)) (tree (slice_get n.inputs 1)) (tree (slice_get n.inputs 2)) m p)
  by-kind (kind.Window w) size m p few low =
      keeps-or (keeps_window w) _ _
      (windows n.inputs few low ∙ three (steady_at (slice_get n.inputs 0)) (is_bars (tree (slice_get n.inputs 0))) (steady_at (slice_get n.inputs 1)) (is_bars (tree (slice_get n.inputs 1)))
      (steady_at (slice_get n.inputs 2)) (is_bars (tree (slice_get n.inputs 2))))
  by-kind (kind.Point o) size m p few low =
      keeps-or (keeps_point o) _ _
      (operations n.inputs few low ∙ plain (steady_at (slice_get n.inputs 0)) (steady_at (slice_get n.inputs 1)) (steady_at (slice_get n.inputs 2)))
  by-kind q size m p few low = refl

  pub still-is : slice_get g k ≡ Some n → is_still steady n ≡ is_steady (term_at g k)
  still-is e =
      by-kind n.kind n.window (number_tree (trees g) n.mask) (number_tree (trees g) n.group) (ok.few k n e) (ok.lower k n e).inputs
      ∙ ap is_steady (sym (term_at-node g k n ok e))

-- one term more is told
pub one-more : (g : Graph) (k : ℕ) (steady : List Bool) (b : Bool) → AreSteady g k steady → k < length steady → b ≡ is_steady (term_at g k) → AreSteady g (k + 1) (set steady k b)
one-more g k steady b are inside is j h = elim (cases_eq j k) [
  | inl e ↦ ap (λ i. get_or (set steady k b) i false) e ∙ get_or-set_same steady k b false inside ∙ is ∙ ap (λ i. is_steady (term_at g i)) (sym e)
  | inr ne ↦ get_or-set_other steady k j b false ne ∙ are j (omega arith)
]

pub all-told : (g : Graph) (n m : ℕ) (steady : List Bool) → AreSteady g n steady → m ≤ n → AreSteady g m steady
all-told g n m steady are h k l = are k (omega arith)

-- a formula or an operation that keeps no values
pub follows-kept : (k : Kind) → not (kind_row k).keeps_values ≡ follows_inputs k
follows-kept (kind.Constant cell) = refl
follows-kept (kind.Label name) = refl
follows-kept (kind.Number figure name) = refl
follows-kept (kind.StaticSids sids) = refl
follows-kept (kind.Window w) = refl
follows-kept (kind.Point o) = refl
follows-kept (kind.LabelTest l) = refl
follows-kept (kind.Cross c) = refl
follows-kept (kind.Downsample f) = refl
