-- What an allowed node mentions stands in the graph.
use Rattle.std.proofs.Common.{◌≡◌, ℕ, zero, suc, ◌<◌, Bool, true, false, List, [], ◌∷◌, length, Option, Some, None, slice_get, option_map, sym, ap, subst, ◌∙◌, refl}
use Rattle.std.proofs.lemmas.Bool.{and_parts}
use Rattle.std.proofs.lemmas.Option.{slice_get_within}
use Rattle.pl_pipeline.specs.Term.{Graph, Node, Input, TermInput, MentionsBelow}
use Rattle.pl_pipeline.specs.Text.{kind_at}
use Rattle.pl_terms.specs.Sorts as sorts
use Rattle.pl_terms.specs.Sorts.{Place, Series, sort_of, sort_at, takes_sort, fits, all_fit, optional_fits, has_mask, has_group, places, IsAllowed}

pub takes-none : (p : Place) → takes_sort p None ≡ false
takes-none Series = refl
takes-none p = refl

sort-in : (g : Graph) (p : Place) (k : ℕ) → takes_sort p (sort_at g k) ≡ true → k < length g
sort-in g p k h = here (slice_get g k) refl
  where
    here : (o : Option Node) → slice_get g k ≡ o → k < length g
    here (Some n) e = slice_get_within g k n e
    here None e = absurd (let no : false ≡ true = sym (takes-none p) ∙ sym (ap (λ o. takes_sort p (option_map (λ n. sort_of (kind_at g k)) o)) e) ∙ h in cc)

inputs-in : (g : Graph) (ps : List Place) (is : List Input) (i k : ℕ) → all_fit g ps is ≡ true → slice_get is i ≡ Some (TermInput k) → k < length g
inputs-in g ps [] i k h e = absurd (let no : None ≡ Some (TermInput k) = e in cc)
inputs-in g [] (j ∷ is) i k h e = absurd (let no : false ≡ true = h in cc)
inputs-in g (p ∷ ps) (j ∷ is) zero k h e =
    let r = and_parts (fits g p j) (all_fit g ps is) h in
    let same : j ≡ TermInput k = (let s : Some j ≡ Some (TermInput k) = e in cc) in
    sort-in g p k (sym (ap (fits g p) same) ∙ r.0)
inputs-in g (p ∷ ps) (j ∷ is) (suc i) k h e = inputs-in g ps is i k (and_parts (fits g p j) (all_fit g ps is) h).1 e

optional-in : (g : Graph) (a : Bool) (p : Place) (o : Option ℕ) (k : ℕ) → optional_fits g a p o ≡ true → o ≡ Some k → k < length g
optional-in g a p None k h e = absurd (let no : None ≡ Some k = e in cc)
optional-in g a p (Some j) k h e =
    let same : j ≡ k = (let s : Some j ≡ Some k = e in cc) in
    subst (λ x. x < length g) same (sort-in g p j (and_parts a (takes_sort p (sort_at g j)) h).1)

pub mentions-below : (g : Graph) (names : ℕ) (n : Node) → IsAllowed g names n → MentionsBelow n (length g)
mentions-below g names n w = record {
  inputs = λ i k e. inputs-in g (places n.kind) n.inputs i k w.inputs e;
  mask = λ k e. optional-in g (has_mask n.kind) sorts.Filter n.mask k w.mask e;
  group = λ k e. optional-in g (has_group n.kind) sorts.Classifier n.group k w.group e;
}
