-- In a graph two numbers with one tree are one number.
use Rattle.std.proofs.Common.{◌≡◌, ℕ, zero, suc, ◌<◌, ◌≤◌, List, [], ◌∷◌, length, Option, Some, None, refl, sym, ◌∙◌, ap, arith, slice_get}
use Rattle.std.proofs.lemmas.Option.{slice_get_within}
use Rattle.pl_spec.specs.declared.Column.{Column}
use Rattle.pl_pipeline.specs.Kind.{Kind}
use Rattle.pl_pipeline.specs.Term.{Term, Input, Node, Graph, input_tree, number_tree, tree_over, trees, term_at, MentionsBelow, IsGraph}
use Rattle.pl_pipeline.specs.Term.Term.{absent, column, node}
use Rattle.pl_pipeline.specs.Term.Input.{BarColumn, TermInput}
use Rattle.pl_pipeline.proofs.Trees.{term_at-node}
use Rattle.pl_pipeline.proofs.Unfolds.{stands}

-- lists of at most three elements are told by these
three : {X : Type 0} (xs ys : List X) → length xs ≤ 3 → length ys ≤ 3 → slice_get xs 0 ≡ slice_get ys 0 → slice_get xs 1 ≡ slice_get ys 1 → slice_get xs 2 ≡ slice_get ys 2 → xs ≡ ys
three xs ys p q e f g = upto 3 xs ys p q at_all
  where
    upto : {X : Type 0} (n : ℕ) (xs ys : List X) → length xs ≤ n → length ys ≤ n → ((i : ℕ) → i < n → slice_get xs i ≡ slice_get ys i) → xs ≡ ys
    upto n [] [] p q same = refl
    upto n [] (y ∷ ys) p q same = let s : slice_get [] 0 ≡ slice_get (y ∷ ys) 0 = same 0 (omega arith) in cc
    upto n (x ∷ xs) [] p q same = let s : slice_get (x ∷ xs) 0 ≡ slice_get [] 0 = same 0 (omega arith) in cc
    upto zero (x ∷ xs) (y ∷ ys) p q same = absurd (omega arith)
    upto (suc n) (x ∷ xs) (y ∷ ys) p q same =
        let s : slice_get (x ∷ xs) 0 ≡ slice_get (y ∷ ys) 0 = same 0 (omega arith) in
        let rest : xs ≡ ys = upto n xs ys (omega arith) (omega arith) (λ i h. same (suc i) (omega arith)) in cc

    at_all : (i : ℕ) → i < 3 → slice_get xs i ≡ slice_get ys i
    at_all zero h = e
    at_all (suc zero) h = f
    at_all (suc (suc zero)) h = g
    at_all (suc (suc (suc i))) h = absurd (omega arith)

build : Kind → List Input → Option ℕ → Option ℕ → ℕ → Node
build k is m g n = record { kind = k; inputs = is; mask = m; group = g; window = n }

build_same : {k k' : Kind} {is is' : List Input} {m m' g g' : Option ℕ} {n n' : ℕ} → k ≡ k' → is ≡ is' → m ≡ m' → g ≡ g' → n ≡ n' → build k is m g n ≡ build k' is' m' g' n'
build_same a b c d e = cc

same_node : (m n : Node) → m.kind ≡ n.kind → m.inputs ≡ n.inputs → m.mask ≡ n.mask → m.group ≡ n.group → m.window ≡ n.window → m ≡ n
unfolding build
same_node m n a b c d e = build_same a b c d e

module _ (g : Graph) (ok : IsGraph g) where
  -- numbers with the tree t are one
  abbrev One : Term → Type 0
  One t = (j k : ℕ) → j < length g → k < length g → term_at g j ≡ t → term_at g k ≡ t → j ≡ k

  not_absent : (k : ℕ) → k < length g → term_at g k ≡ absent → ⊥
  not_absent k h e = let n : (n : Node) × (slice_get g k ≡ Some n) = stands g k h in let t : term_at g k ≡ tree_over (trees g) n.0 = term_at-node g k n.0 ok n.1 in cc

  not_column : (k : ℕ) (c : Column) → k < length g → term_at g k ≡ column c → ⊥
  not_column k c h e = let n : (n : Node) × (slice_get g k ≡ Some n) = stands g k h in let t : term_at g k ≡ tree_over (trees g) n.0 = term_at-node g k n.0 ok n.1 in cc

  one_input : (t : Term) → One t → (o p : Option Input) → ((k : ℕ) → o ≡ Some (TermInput k) → k < length g) → ((k : ℕ) → p ≡ Some (TermInput k) → k < length g)
      → input_tree (trees g) o ≡ t → input_tree (trees g) p ≡ t → o ≡ p
  one_input t one None None h i e f = refl
  one_input t one None (Some (BarColumn c)) h i e f = cc
  one_input t one None (Some (TermInput k)) h i e f = absurd (not_absent k (i k refl) (f ∙ sym e))
  one_input t one (Some (BarColumn c)) None h i e f = cc
  one_input t one (Some (BarColumn c)) (Some (BarColumn b)) h i e f = let s : column c ≡ column b = e ∙ sym f in let r : c ≡ b = cc in ap (λ z. Some (BarColumn z)) r
  one_input t one (Some (BarColumn c)) (Some (TermInput k)) h i e f = absurd (not_column k c (i k refl) (f ∙ sym e))
  one_input t one (Some (TermInput j)) None h i e f = absurd (not_absent j (h j refl) (e ∙ sym f))
  one_input t one (Some (TermInput j)) (Some (BarColumn c)) h i e f = absurd (not_column j c (h j refl) (e ∙ sym f))
  one_input t one (Some (TermInput j)) (Some (TermInput k)) h i e f = ap (λ z. Some (TermInput z)) (one j k (h j refl) (i k refl) e f)

  one_number : (t : Term) → One t → (o p : Option ℕ) → ((k : ℕ) → o ≡ Some k → k < length g) → ((k : ℕ) → p ≡ Some k → k < length g)
      → number_tree (trees g) o ≡ t → number_tree (trees g) p ≡ t → o ≡ p
  one_number t one None None h i e f = refl
  one_number t one None (Some k) h i e f = absurd (not_absent k (i k refl) (f ∙ sym e))
  one_number t one (Some j) None h i e f = absurd (not_absent j (h j refl) (e ∙ sym f))
  one_number t one (Some j) (Some k) h i e f = ap Some (one j k (h j refl) (i k refl) e f)

  abbrev InRange : Node → Type 0
  InRange n = MentionsBelow n (length g)

  in_range : (k : ℕ) (n : Node) → slice_get g k ≡ Some n → InRange n
  in_range k n e =
      let h : k < length g = slice_get_within g k n e in let low : MentionsBelow n k = ok.lower k n e in
      record {
        inputs = λ i j f. let l : j < k = low.inputs i j f in omega arith;
        mask = λ j f. let l : j < k = low.mask j f in omega arith;
        group = λ j f. let l : j < k = low.group j f in omega arith;
      }

  -- Two numbers are one where their trees are equal.
  pub one_tree : (t : Term) → One t
  one_tree absent j k h i e f = absurd (not_absent j h e)
  one_tree (column c) j k h i e f = absurd (not_column j c h e)
  one_tree (node kind size x y z m p) j k h i e f =
      let a : (n : Node) × (slice_get g j ≡ Some n) = stands g j h in
      let b : (n : Node) × (slice_get g k ≡ Some n) = stands g k i in
      let ta : tree_over (trees g) a.0 ≡ node kind size x y z m p = sym (term_at-node g j a.0 ok a.1) ∙ e in
      let tb : tree_over (trees g) b.0 ≡ node kind size x y z m p = sym (term_at-node g k b.0 ok b.1) ∙ f in
      let ra : InRange a.0 = in_range j a.0 a.1 in
      let rb : InRange b.0 = in_range k b.0 b.1 in
      let i0 : slice_get a.0.inputs 0 ≡ slice_get b.0.inputs 0 = one_input x (one_tree x) _ _ (ra.inputs 0) (rb.inputs 0) (cc) (cc) in
      let i1 : slice_get a.0.inputs 1 ≡ slice_get b.0.inputs 1 = one_input y (one_tree y) _ _ (ra.inputs 1) (rb.inputs 1) (cc) (cc) in
      let i2 : slice_get a.0.inputs 2 ≡ slice_get b.0.inputs 2 = one_input z (one_tree z) _ _ (ra.inputs 2) (rb.inputs 2) (cc) (cc) in
      let im : a.0.mask ≡ b.0.mask = one_number m (one_tree m) _ _ ra.mask rb.mask (cc) (cc) in
      let ig : a.0.group ≡ b.0.group = one_number p (one_tree p) _ _ ra.group rb.group (cc) (cc) in
      let all : a.0.inputs ≡ b.0.inputs = three a.0.inputs b.0.inputs (ok.few j a.0 a.1) (ok.few k b.0 b.1) i0 i1 i2 in
      let kinds : a.0.kind ≡ b.0.kind = cc in
      let sizes : a.0.window ≡ b.0.window = cc in
      let same : a.0 ≡ b.0 = same_node a.0 b.0 kinds all im ig sizes in
      ok.distinct j k a.0 a.1 (b.1 ∙ ap Some (sym same))
