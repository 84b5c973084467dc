-- What a downsampled term is.
use Rattle.std.proofs.Common.{rules, IfNone, IfSome, ◌≡◌, ℕ, true, false, List, [], ◌∷◌, Option, Some, None, slice_get, refl, sym, ◌∙◌, ap}
use Rattle.std.proofs.lemmas.Bool.{true≢false}
use Rattle.std.proofs.lemmas.Option.{same_Some}
use Rattle.pl_spec.specs.declared.Frequency.{Frequency}
use Rattle.pl_pipeline.specs.Kind.{Kind}
use Rattle.pl_pipeline.specs.Kind.Kind.{Downsample}
use Rattle.pl_pipeline.specs.Table.{Pipeline}
use Rattle.pl_pipeline.specs.Term.{Input, Node}
use Rattle.pl_pipeline.specs.Term.Input.{BarColumn, TermInput}
use Rattle.pl_terms.specs.Sorts.{first_term, is_downsampled}
use Rattle.pl_terms.specs.Uses.{is_used}
use Rattle.pl_terms.specs.Kinds.{kind_of}
use Rattle.pl_terms.specs.Nodes.{node_of}
use Rattle.pl_terms.specs.declared.node.Node as code
use Rattle.pl_daily.specs.Terms.{Downsamples}
use Rattle.pl_values.proofs.Downsampled.{first-of}

same_frequency : (f e : Frequency) → Downsample f ≡ Downsample e → f ≡ e
same_frequency f e h = cc

same_term : (u v : ℕ) → Some (TermInput u) ≡ Some (TermInput v) → u ≡ v
same_term u v h = cc

downsample_is : (k : Kind) (f : Frequency) → k ≡ Downsample f → is_downsampled k ≡ true
downsample_is k f e = ap is_downsampled e

pub first_is : (xs : List Input) (u : ℕ) → first_term xs ≡ Some u → slice_get xs 0 ≡ Some (TermInput u)
first_is [] u e = cc
first_is (BarColumn c ∷ xs) u e = cc
first_is (TermInput v ∷ xs) u e = ap (λ n. Some (TermInput n)) (same_Some v u e)

module _ (p : Pipeline) (k : ℕ) where
  -- a term is downsampled in one way
  pub one_way : (f e : Frequency) (u v : ℕ) → Downsamples p k f u → Downsamples p k e v → (f ≡ e) × (u ≡ v)
  one_way f e u v a b =
      let same : a.node ≡ b.node = same_Some a.node b.node (sym a.at ∙ b.at) in (
        same_frequency f e (sym a.kind ∙ ap (λ (n : Node). n.kind) same ∙ b.kind),
        same_term u v (sym a.input ∙ ap (λ (n : Node). slice_get n.inputs 0) same ∙ b.input),
      )

  pub is_downsampled_by : (n : Node) (f : Frequency) (u : ℕ) → is_used p k ≡ true → slice_get p.graph k ≡ Some n → n.kind ≡ Downsample f → first_term n.inputs ≡ Some u → Downsamples p k f u
  is_downsampled_by n f u used node kind input = record { node = n; used = used; at = node; kind = kind; input = first_is n.inputs u input }

  pub by_frequency : (n : Node) (f e : Frequency) (u : ℕ) → slice_get p.graph k ≡ Some n → n.kind ≡ Downsample f → Downsamples p k e u → f ≡ e
  by_frequency n f e u node kind down = same_frequency f e (sym kind ∙ ap (λ (m : Node). m.kind) (same_Some n down.node (sym node ∙ down.at)) ∙ down.kind)

  pub no_kind : (n : Node) (f : Frequency) (u : ℕ) → slice_get p.graph k ≡ Some n → is_downsampled n.kind ≡ false → Downsamples p k f u → ⊥
  no_kind n f u node none down = true≢false (sym (downsample_is down.node.kind f down.kind) ∙ ap (λ (m : Node). is_downsampled m.kind) (same_Some down.node n (sym down.at ∙ node)) ∙ none)

  pub no_input : (n : Node) (f : Frequency) (u : ℕ) → slice_get p.graph k ≡ Some n → first_term n.inputs ≡ None → Downsamples p k f u → ⊥
  no_input n f u node none down =
      let bad : Some u ≡ None = sym (first-of down.node.inputs u down.input) ∙ ap (λ (m : Node). first_term m.inputs) (same_Some down.node n (sym down.at ∙ node)) ∙ none in
      cc

pub kind_is : (n : code.Node) → (node_of n).kind ≡ kind_of n.kind
unfolding node_of
kind_is n = refl

pub if_none : {A : Type 0} (o : Option A) (P : Type 0) → P → IfNone o P
if_none None P x = x
if_none (Some a) P x = search rules

-- a fact of what there is
pub if_some : {A : Type 0} (o : Option A) (P : A → Type 0) → ((a : A) → o ≡ Some a → P a) → IfSome o P
if_some None P h = search rules
if_some (Some a) P h = h a refl

pub none_is : {A : Type 0} (o : Option A) (P : Type 0) → (o ≡ None → P) → IfNone o P
none_is None P h = h refl
none_is (Some a) P h = search rules
