-- Downsampled terms: what they are worth by their inputs, and what holds of all values of a sort.
use Rattle.std.proofs.Common.{◌≡◌, ℕ, zero, suc, ◌<◌, Bool, true, false, ◌&&◌, if◌then◌else◌, ℤ, List, [], ◌∷◌, Option, Some, None, refl, sym, ap, subst, ◌∙◌, slice_get, arith}
use Rattle.pl_spec.specs.declared.Frequency.{Frequency}
use Rattle.pl_spec.specs.World.{World, exists}
use Rattle.pl_spec.specs.Periods.{period_start}
use Rattle.pl_pipeline.specs.Kind.{Kind}
use Rattle.pl_pipeline.specs.Kind.Kind.{Downsample}
use Rattle.pl_pipeline.specs.Term.{Node, Input, input_tree, trees}
use Rattle.pl_pipeline.specs.Term.Input.{BarColumn, TermInput}
use Rattle.pl_pipeline.specs.Text.{kind_at}
use Rattle.pl_pipeline.specs.Value.{Value, View, passes, value_of_part, empty, sort_over, sort_kind, kind_value, value}
use Rattle.pl_pipeline.specs.NodeValue.{node_value, node_seen, input_part, number_part, node_operands, ReadsSteady}
use Rattle.pl_pipeline.specs.Table.{Pipeline, value_of}
use Rattle.pl_pipeline.proofs.Unfolds.{seen_at-node, value_at-node}
use Rattle.pl_pipeline.proofs.Trees.{term_at-node}
use Rattle.pl_terms.specs.Checked.{IsChecked}
use Rattle.pl_terms.specs.declared.row.Sort.{Sort}
use Rattle.pl_terms.specs.Sorts.{AnyTerm, sort_of, sort_at, is_downsampled, is_windowed, first_term, places, fits, takes_sort}
use Rattle.pl_terms.proofs.TermSorts.{kind-own, sort-input, sorted-there}
use Rattle.pl_values.proofs.Typed.{has-input}
use Rattle.pl_values.proofs.KindFamilies.{downsampled_kind}

any-place : (k : Kind) (f : Frequency) → k ≡ Downsample f → slice_get (places k) 0 ≡ Some AnyTerm
unfolding places
any-place k f e = rw e refl

any-sort : (o : Option Sort) → takes_sort AnyTerm o ≡ true → (x : Sort) × (o ≡ Some x)
any-sort (Some x) h = (x, refl)
any-sort None h = absurd (let bad : false ≡ true = h in cc)

pub first-of : (is : List Input) (u : ℕ) → slice_get is 0 ≡ Some (TermInput u) → first_term is ≡ Some u
first-of [] u e = absurd (let bad : None ≡ Some (TermInput u) = e in cc)
first-of (i ∷ is) u e = let same : i ≡ TermInput u = cc in ap (λ x. first_term (x ∷ is)) same

-- a node that is over no window asks nothing of windows
pub plain-reads : (p : Pipeline) (n : Node) → is_windowed n.kind ≡ false → ReadsSteady p.graph n
plain-reads p n h f e = absurd (let no : true ≡ false = ap is_windowed (sym e) ∙ h in cc)

module _ (p : Pipeline) (ok : IsChecked p) where
  -- the input of a downsampled term, which has its sort
  pub record IsOver (t : ℕ) (m : Node) : Type 0 where
    pub frequency : Frequency
    pub input : ℕ
    pub kind : m.kind ≡ Downsample frequency
    pub first : slice_get m.inputs 0 ≡ Some (TermInput input)
    pub below : input < t
    pub sort : (x : Sort) → sort_at p.graph t ≡ Some x → sort_at p.graph input ≡ Some x

  pub over : (t : ℕ) (m : Node) → slice_get p.graph t ≡ Some m → is_downsampled m.kind ≡ true → IsOver t m
  over t m e h =
      let k = downsampled_kind m.kind h in
      let x = has-input p.graph (places m.kind) m.inputs 0 AnyTerm (ok.nodes t m e).inputs (any-place m.kind k.0 k.1) in
      here k.0 k.1 x.0 x.1 x.2
    where
      here : (f : Frequency) → m.kind ≡ Downsample f → (x : Input) → slice_get m.inputs 0 ≡ Some x → fits p.graph AnyTerm x ≡ true → IsOver t m
      here f k (BarColumn c) i g = absurd (let bad : false ≡ true = g in cc)
      here f k (TermInput u) i g =
          let below : u < t = (ok.graph.lower t m e).inputs 0 u i in
          let y = any-sort (sort_at p.graph u) g in
          let own = sort-input p.graph t m u y.0 e h (first-of m.inputs u i) below y.1 in
          record { frequency = f; input = u; kind = k; first = i; below = below; sort = λ x s. y.1 ∙ (sym own ∙ s) }

module _ (w : World) (p : Pipeline) (ok : IsChecked p) where
  -- what a node is worth, of any kind, and over the values of what it mentions
  pub value-seen : (k : ℕ) (n : Node) → slice_get p.graph k ≡ Some n → (a : ℕ) (d : ℤ) → value_of w p k a d ≡ node_seen w p.names p.graph n View.Own a d
  unfolding value
  value-seen k n is a d = seen_at-node w p.names p.graph ok.graph k n is View.Own a d

  pub value-node : (k : ℕ) (n : Node) → slice_get p.graph k ≡ Some n → ReadsSteady p.graph n → (a : ℕ) (d : ℤ) → value_of w p k a d ≡ node_value w p.names p.graph n a d
  value-node k n is steady a d = value_at-node w p.names p.graph ok.graph k n is steady a d

  pub downsampled-value : (t : ℕ) (m : Node) → slice_get p.graph t ≡ Some m → (o : IsOver p ok t m) → (a : ℕ) (d : ℤ)
      → value_of w p t a d ≡ (if exists w a d && passes (number_part w p.names p.graph m.mask) a d then value_of w p o.input a (period_start o.frequency w.days d) else empty (kind_at p.graph t))
  unfolding kind_value
  downsampled-value t m e o a d =
      let open_now = exists w a d && passes (number_part w p.names p.graph m.mask) a d in
      let none = empty (sort_over m.kind (sort_kind (input_tree (trees p.graph) (slice_get m.inputs 0)))) in
      value-node t m e (plain-reads p m (ap is_windowed o.kind)) a d
      ∙ ap (λ k. if open_now then kind_value w p.names k m.window (node_operands w p.names p.graph m) a d else none) o.kind
      ∙ ap (λ i. if open_now then value_of_part (input_part w p.names p.graph i) a (period_start o.frequency w.days d) else none) o.first
      ∙ ap (λ x. if open_now then value_of w p o.input a (period_start o.frequency w.days d) else empty (sort_kind x)) (sym (term_at-node p.graph t m ok.graph e))

  module _ (Good : Value → Type 0) (r : Sort) where
    either-good : (b : Bool) (v u : Value) → Good v → Good u → Good (if b then v else u)
    either-good true v u h k = h
    either-good false v u h k = k

    abbrev Own : Type 0
    Own = (k : ℕ) (m : Node) → slice_get p.graph k ≡ Some m → is_downsampled m.kind ≡ false → sort_of m.kind ≡ r → (a : ℕ) (d : ℤ) → Good (value_of w p k a d)

    abbrev None-good : Type 0
    None-good = (k : Kind) → sort_of k ≡ r → Good (empty k)

    one : Own → None-good → (t : ℕ) → sort_at p.graph t ≡ Some r → ((u : ℕ) → u < t → sort_at p.graph u ≡ Some r → (a : ℕ) (d : ℤ) → Good (value_of w p u a d)) → (a : ℕ) (d : ℤ) → Good (value_of w p t a d)
    one own none t s before a d = let x = sorted-there p.graph t r s in here x.0 x.1 x.2 (is_downsampled x.0.kind) refl
      where
        here : (m : Node) → slice_get p.graph t ≡ Some m → sort_of (kind_at p.graph t) ≡ r → (b : Bool) → is_downsampled m.kind ≡ b → Good (value_of w p t a d)
        here m e q false h = own t m e h (ap sort_of (sym (kind-own p.graph t m e h)) ∙ q) a d
        here m e q true h =
            let o = over p ok t m e h in
            subst Good (sym (downsampled-value t m e o a d))
            (either-good (exists w a d && passes (number_part w p.names p.graph m.mask) a d) _ _ (before o.input o.below (o.sort r s) a (period_start o.frequency w.days d)) (none (kind_at p.graph t) q))

    below-all : Own → None-good → (n t : ℕ) → t < n → sort_at p.graph t ≡ Some r → (a : ℕ) (d : ℤ) → Good (value_of w p t a d)
    below-all own none zero t l s a d = absurd (omega arith)
    below-all own none (suc n) t l s a d = one own none t s (λ u k q b c. below-all own none n u (omega arith) q b c) a d

    -- What holds of the values of all terms of a sort that aren't downsampled, and of empty ones, holds of
    -- all.
    pub values-of-sort : Own → None-good → (t : ℕ) → sort_at p.graph t ≡ Some r → (a : ℕ) (d : ℤ) → Good (value_of w p t a d)
    values-of-sort own none t s a d = below-all own none (suc t) t (omega arith) s a d
