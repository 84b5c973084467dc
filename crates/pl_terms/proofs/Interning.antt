-- Interning by trees: a node has the number of its tree, and a tree that was not there is the last.
use Rattle.std.proofs.Common.{◌≡◌, ℕ, ◌+◌, ◌<◌, ◌≤◌, true, ◌⊎◌, List, [], ◌∷◌, ◌++◌, length, Some, None, slice_get, refl, sym, ap, subst, ◌∙◌, arith, length-append, inl, inr, nat_lt, get_or}
use Rattle.std.specs.List.{Contains}
use Rattle.std.proofs.lemmas.List.Elements.{Contains-get_or}
use Rattle.std.proofs.lemmas.Bool.Decides.{nat_tests}
use Rattle.std.proofs.lemmas.Option.{slice_get_within, slice_get-get_or}
use Rattle.std.proofs.Math.ListN.{get_or-append}
use Rattle.std.proofs.Math.Seq.{get_or-append_seam}
use Rattle.pl_spec.specs.Limits.{most_terms}
use Rattle.pl_pipeline.specs.Term.{Term, Node, Graph, IsGraph, MentionsBelow, tree_at, tree_over, trees_after, trees, term_at}
use Rattle.pl_pipeline.specs.Term.Term.{absent}
use Rattle.pl_pipeline.proofs.Trees.{term_at-node}
use Rattle.pl_pipeline.proofs.Distinct.{one_tree}
use Rattle.pl_terms.specs.Nodes.{place_from, Interned, interned}
use Rattle.pl_terms.specs.Laws.{IsNew}
use Rattle.pl_terms.proofs.Shared.{not-there, puts, graph-more}
use Rattle.pl_terms.proofs.Numbered.{refused-full}

-- ---- the trees of one node more

trees-more : (ts : List Term) (g : Graph) (n : Node) → trees_after ts (g ++ n ∷ []) ≡ trees_after ts g ++ tree_over (trees_after ts g) n ∷ []
trees-more ts [] n = refl
trees-more ts (m ∷ ms) n = trees-more (ts ++ tree_over ts m ∷ []) ms n

pub trees-long : (ts : List Term) (g : Graph) → length (trees_after ts g) ≡ length ts + length g
trees-long ts [] = omega arith
trees-long ts (n ∷ g) =
    let rest = trees-long (ts ++ tree_over ts n ∷ []) g in
    omega (arith, length-append ts (tree_over ts n ∷ []))

pub length-trees : (g : Graph) → length (trees g) ≡ length g
length-trees g = let l = trees-long [] g in omega arith

-- all terms that were there have their trees and numbers
pub record Later (g h : Graph) : Type 0 where
  pub longer : length g ≤ length h
  pub same : (k : ℕ) → k < length g → term_at h k ≡ term_at g k

pub later-same : (g : Graph) → Later g g
later-same g = record { longer = omega arith; same = λ k l. refl }

pub later-still : (g h i : Graph) → Later g h → Later h i → Later g i
later-still g h i a b =
    let p : length g ≤ length h = a.longer in
    let q : length h ≤ length i = b.longer in
    record { longer = omega arith; same = λ k l. b.same k (omega arith) ∙ a.same k l }

pub later-more : (g : Graph) (n : Node) → Later g (g ++ n ∷ [])
later-more g n = record {
  longer = omega (arith, length-append g (n ∷ []));
  same = λ k l. ap (λ ts. tree_at ts k) (trees-more [] g n) ∙ get_or-append (trees g) (tree_over (trees g) n ∷ []) absent k (omega (arith, length-trees g));
}

last-tree : (g : Graph) (n : Node) → term_at (g ++ n ∷ []) (length g) ≡ tree_over (trees g) n
last-tree g n = ap (λ ts. tree_at ts (length g)) (trees-more [] g n) ∙ ap (tree_at (trees g ++ tree_over (trees g) n ∷ [])) (sym (length-trees g)) ∙ get_or-append_seam (trees g) (tree_over (trees g) n) [] absent

-- what is among the trees has a number
number-there : (g : Graph) (t : Term) → Contains (trees g) t → (k : ℕ) × (k < length g) × (term_at g k ≡ t)
number-there g t c =
    let in_range : c.0 < length (trees g) = c.1 in
    let one : Some (get_or (trees g) c.0 absent) ≡ Some (get_or (trees g) c.0 t) = sym (slice_get-get_or (trees g) c.0 absent in_range) ∙ slice_get-get_or (trees g) c.0 t in_range in
    let e : get_or (trees g) c.0 absent ≡ get_or (trees g) c.0 t = cc in
    (c.0, omega (arith, length-trees g), e ∙ c.2)

-- ---- interning

-- the number of the node's tree, and the graph after it
pub record IsPut (g : Graph) (n : Node) (i : Interned) : Type 0 where
  pub graph : IsGraph i.graph
  pub later : Later g i.graph
  pub there : i.number < length i.graph
  pub tree : term_at i.graph i.number ≡ tree_over (trees g) n
  pub few : length g ≤ most_terms → length i.graph ≤ most_terms
  pub trees : (Contains (trees g) (tree_over (trees g) n) × (trees i.graph ≡ trees g)) ⊎ (¬ Contains (trees g) (tree_over (trees g) n) × (trees i.graph ≡ trees g ++ tree_over (trees g) n ∷ []))

old-put : (g : Graph) (n : Node) (k : ℕ) → IsGraph g → slice_get g k ≡ Some n → IsPut g n (record { number = k; graph = g })
old-put g n k ok e =
    let at : term_at g k ≡ tree_over (trees g) n = term_at-node g k n ok e in
    let in_range : k < length g = slice_get_within g k n e in
    record {
      graph = ok;
      later = later-same g;
      there = in_range;
      tree = at;
      few = λ h. h;
      trees = inl (subst (Contains (trees g)) at (Contains-get_or (trees g) k absent (omega (arith, length-trees g))), refl);
    }

-- a node that is not there has a tree that is not
new-tree : (g : Graph) (n : Node) → IsGraph (g ++ n ∷ []) → ¬ Contains (trees g) (tree_over (trees g) n)
new-tree g n ok c =
    let t = tree_over (trees g) n in
    let w = number-there g t c in
    let at : term_at (g ++ n ∷ []) w.0 ≡ t = (later-more g n).same w.0 w.1 ∙ w.2 in
    let long : length (g ++ n ∷ []) ≡ length g + 1 = length-append g (n ∷ []) in
    let low : w.0 < length g = w.1 in
    let one : w.0 ≡ length g = one_tree (g ++ n ∷ []) ok t w.0 (length g) (omega arith) (omega arith) at (last-tree g n) in
    omega arith

new-put : (g : Graph) (n : Node) → IsGraph g → length n.inputs ≤ 3 → MentionsBelow n (length g) → place_from 0 g n ≡ None → nat_lt (length g) most_terms ≡ true → IsPut g n (record { number = length g; graph = g ++ n ∷ [] })
new-put g n ok few low fresh room =
    let more : IsGraph (g ++ n ∷ []) = graph-more g n ok few low (not-there 0 g n fresh) in
    record {
      graph = more;
      later = later-more g n;
      there = omega (arith, length-append g (n ∷ []));
      tree = last-tree g n;
      few = λ h. (let l : length g < most_terms = grind (arith, nat_tests) in omega (arith, length-append g (n ∷ [])));
      trees = inr (new-tree g n more, trees-more [] g n);
    }

pub put : (g : Graph) (n : Node) (i : Interned) → IsGraph g → length n.inputs ≤ 3 → MentionsBelow n (length g)
    → interned g n ≡ Some i → IsPut g n i
put g n i ok few low h = elim (puts g n i h) [
  | inl w ↦ subst (IsPut g n) w.2 (old-put g n w.0 ok w.1)
  | inr w ↦ subst (IsPut g n) w.2 (new-put g n ok few low w.0 w.1)
]

-- a node that is refused would be one more than 256
pub record IsFull (g : Graph) (n : Node) : Type 0 where
  pub full : most_terms ≤ length g
  pub graph : IsGraph (g ++ n ∷ [])
  pub last : term_at (g ++ n ∷ []) (length g) ≡ tree_over (trees g) n

pub refused : (g : Graph) (n : Node) → IsGraph g → length n.inputs ≤ 3 → MentionsBelow n (length g) → interned g n ≡ None → IsFull g n
refused g n ok few low h =
    let r : IsNew g n × (most_terms ≤ length g) = refused-full g n h in
    record { full = r.1; graph = graph-more g n ok few low r.0; last = last-tree g n }
