-- What interning answers, in its three cases.
use Rattle.std.proofs.Common.{◌≡◌, ℕ, zero, suc, ◌+◌, ◌≤◌, Bool, true, false, cond, [], ◌∷◌, ◌++◌, length, Option, Some, None, refl, sym, ap, ◌∙◌, arith, nat_lt}
use Rattle.std.proofs.lemmas.Bool.Decides.{nat_tests}
use Rattle.pl_spec.specs.Limits.{most_terms}
use Rattle.pl_pipeline.specs.Term.{Graph, Node}
use Rattle.pl_terms.specs.Nodes.{same_node, place_from, interned}
use Rattle.std.specs.Prelude.{Result, Ok, Err}
use Rattle.pl_terms.specs.declared.graph.GraphError.{GraphError}
use Rattle.pl_terms.specs.declared.graph.GraphError.TheVariants.{Full, Memory}
use Rattle.pl_terms.specs.Laws.{IsFirstAt, IsNew, OldNodesStay, NewNodesFollow}
use Rattle.pl_terms.proofs.Same.{nodes-decide}
use Rattle.pl_terms.proofs.Shared.{not-there, place-is, kept}

-- ---- the place of a node

first-from : (i : ℕ) (g : Graph) (n : Node) (k : ℕ) → IsFirstAt g n k → place_from i g n ≡ Some (i + k)
unfolding place_from
first-from i [] n k h = absurd (let no : None ≡ Some n = h.0 in cc)
first-from i (m ∷ ms) n zero h =
    let is : m ≡ n = (let s : Some m ≡ Some n = h.0 in cc) in
    let yes : same_node m n ≡ true = ap (λ x. same_node x n) is ∙ (nodes-decide n n).1 refl in
    ap (λ b. cond b (Some i) (place_from (i + 1) ms n)) yes ∙ ap Some (let e : i ≡ i + 0 = omega arith in e)
first-from i (m ∷ ms) n (suc k) h = here (same_node m n) refl (first-from (i + 1) ms n k (h.0, λ j e. let l : suc k ≤ suc j = h.1 (suc j) e in omega arith))
  where
    here : (b : Bool) → same_node m n ≡ b → place_from (i + 1) ms n ≡ Some (i + 1 + k) → cond (same_node m n) (Some i) (place_from (i + 1) ms n) ≡ Some (i + suc k)
    here true q rest = absurd (let l : suc k ≤ 0 = h.1 0 (ap Some ((nodes-decide m n).0 q)) in omega arith)
    here false q rest = ap (λ b. cond b (Some i) (place_from (i + 1) ms n)) q ∙ rest ∙ ap Some (let e : i + 1 + k ≡ i + suc k = omega arith in e)

new-none : (g : Graph) (n : Node) → IsNew g n → place_from 0 g n ≡ None
new-none g n h = here (place_from 0 g n) refl
  where
    here : (o : Option ℕ) → place_from 0 g n ≡ o → place_from 0 g n ≡ None
    here None p = p
    here (Some k) p = let w = place-is 0 g n k p in absurd (h w.0 w.2)

-- ---- the three cases

pub old-stays : OldNodesStay
old-stays g n k h = kept g n k (first-from 0 g n k h ∙ ap Some (let e : 0 + k ≡ k = omega arith in e))

pub new-follows : NewNodesFollow
unfolding interned
new-follows g n h l =
    let t : nat_lt (length g) most_terms ≡ true = grind (arith, nat_tests) in
    rw (new-none g n h, t) refl

pub full-refuses : (g : Graph) (n : Node) → IsNew g n × (most_terms ≤ length g) → interned g n ≡ None
unfolding interned
full-refuses g n h =
    let l : most_terms ≤ length g = h.1 in
    let t : nat_lt (length g) most_terms ≡ false = grind (arith, nat_tests) in
    rw (new-none g n h.0, t) refl

pub refused-full : (g : Graph) (n : Node) → interned g n ≡ None → IsNew g n × (most_terms ≤ length g)
unfolding interned
refused-full g n h = here (place_from 0 g n) refl (nat_lt (length g) most_terms) refl
  where
    here : (o : Option ℕ) → place_from 0 g n ≡ o → (b : Bool) → nat_lt (length g) most_terms ≡ b → IsNew g n × (most_terms ≤ length g)
    here (Some k) p b q = absurd (let no : Some (record { number = k; graph = g }) ≡ None = sym (rw p refl) ∙ h in cc)
    here None p true q = absurd (let no : Some (record { number = length g; graph = g ++ n ∷ [] }) ≡ None = sym (rw (p, q) refl) ∙ h in cc)
    here None p false q = (λ k e. not-there 0 g n p k e, grind (arith, nat_tests))

-- ---- what is full

abbrev err : {A : Type 0} → GraphError → Result A GraphError
err e = Err e

pub ok-not-full : {A : Type 0} (x : A) (e : GraphError) → Ok x ≡ Err e → ⊥
ok-not-full x e h = (let no : Ok x ≡ Err e = h in cc)

pub memory-not-full : {A : Type 0} → err {A = A} Memory ≡ err {A = A} Full → ⊥
memory-not-full h = cc

pub there-old : (g : Graph) (n : Node) (k : ℕ) → place_from 0 g n ≡ Some k → IsNew g n → ⊥
there-old g n k h new = let w = place-is 0 g n k h in new w.0 w.2
