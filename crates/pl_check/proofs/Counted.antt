-- Putting terms into the graph, and after the same terms where none is shared.
use Rattle.std.proofs.Common.{◌≡◌, ℕ, ◌<◌, ◌≤◌, nat_lt, Bool, true, false, cond, ◌⊎◌, List, [], ◌∷◌, ◌++◌, length, map, Option, Some, None, slice_get, refl, sym, ap, subst, ◌∙◌, arith, inl, inr, append_assoc, length-append}
use Rattle.std.specs.Prelude.{option_and_then}
use Rattle.std.specs.List.{Contains}
use Rattle.std.proofs.Math.Seq.{get_or-append_seam}
use Rattle.std.proofs.lemmas.Bool.{cases_lt}
use Rattle.std.proofs.lemmas.Bool.Decides.{nat_tests}
use Rattle.std.proofs.lemmas.List.{map-append, length-map}
use Rattle.std.proofs.lemmas.List.Elements.{Contains-get_or, Contains-append_left, Contains-append_right, Contains-append_cases}
use Rattle.std.proofs.lemmas.Option.{slice_get_within}
use Rattle.pl_pipeline.proofs.Distinct.{one_tree}
use Rattle.pl_pipeline.proofs.Unfolds.{stands}
use Rattle.pl_spec.specs.Limits.{most_terms}
use Rattle.pl_spec.proofs.Each.{each_both, each_more, each_of_map, map_each}
use Rattle.pl_pipeline.specs.Term.{Term, absent, TermInput, Node, Graph, IsGraph, MentionsBelow, tree_at, tree_over, trees, term_at}
use Rattle.pl_terms.specs.Nodes.{Interned, interned}
use Rattle.pl_terms.proofs.Shared.{shared, parts}
use Rattle.pl_terms.proofs.Interning.{later-more, length-trees, IsPut, put, IsFull, refused}
use Rattle.pl_check.specs.declared.operation.Operation.{Operation}
use Rattle.pl_check.specs.Values.{Value, Factor, Filter, Labels, Numbers, Number, Bound, bound}
use Rattle.pl_check.specs.Results.{constant, node_for, result_for, names_after}
use Rattle.pl_check.specs.Typed.{Terms, Found, found, constant_value, factor_value, asks_factor, place_value, with_constants, with_node, node_made, made}
use Rattle.pl_check.specs.Trees.{added}
use Rattle.pl_check.specs.Numbering.{AreFirsts, HasMany}
use Rattle.pl_check.proofs.Extended.{IsOver, over-later, trees-more, constants-add, node-adds}
use Rattle.pl_check.proofs.Few.{few-inputs}
use Rattle.pl_check.proofs.Renumbered.{renumbered, moved, names-moved, result-moved}
use Rattle.pl_check.proofs.Rooted.{IsIn, AllIn, values, moved_input, moved_node, node-moved, tree-moved, mentions-moved, node-mentions}
use Rattle.pl_check.proofs.Growing.{terms, interned-grows}
use Rattle.pl_check.proofs.Sorted.{result-term}

-- ---- one tree more

firsts-more : (seen all once more : List Term) (t : Term) → AreFirsts seen all once → (Contains once t × (more ≡ once)) ⊎ (¬ Contains once t × (more ≡ once ++ t ∷ [])) → AreFirsts seen (all ++ t ∷ []) more
firsts-more seen [] once more t h (inl x) = inl (subst (λ xs. Contains xs t) h x.0, x.1 ∙ h)
firsts-more seen [] once more t h (inr x) = inr (λ c. x.0 (subst (λ xs. Contains xs t) (sym h) c), x.1 ∙ ap (λ xs. xs ++ t ∷ []) h)
firsts-more seen (u ∷ us) once more t (inl h) x = inl (h.0, firsts-more seen us once more t h.1 x)
firsts-more seen (u ∷ us) once more t (inr h) x = inr (h.0, firsts-more (seen ++ u ∷ []) us once more t h.1 x)

-- what is kept was there
firsts-in : (seen all once : List Term) (t : Term) → AreFirsts seen all once → Contains once t → Contains (seen ++ all) t
firsts-in seen [] once t h c = Contains-append_left seen [] t (subst (λ xs. Contains xs t) h c)
firsts-in seen (u ∷ us) once t (inl h) c = elim (Contains-append_cases seen us t (firsts-in seen us once t h.1 c)) [
  | inl x ↦ Contains-append_left seen (u ∷ us) t x
  | inr x ↦ Contains-append_right seen (u ∷ us) t (Contains-append_right (u ∷ []) us t x)
]
firsts-in seen (u ∷ us) once t (inr h) c = subst (λ xs. Contains xs t) (append_assoc seen (u ∷ []) us) (firsts-in (seen ++ u ∷ []) us once t h.1 c)

-- A graph, and after it the terms where none is shared. Each of these has a number in the graph, with the same
-- tree and a node of the same kind.
pub record Same (s f : Terms) (to : ℕ → ℕ) : Type 0 where
  pub graph : IsGraph s.graph
  pub firsts : AreFirsts [] (trees f.graph) (trees s.graph)
  pub names : s.names ≡ f.names
  pub few : length s.graph ≤ most_terms
  pub trees : (k : ℕ) → k < length f.graph → term_at s.graph (to k) ≡ term_at f.graph k
  pub kinds : (k : ℕ) (m : Node) → slice_get f.graph k ≡ Some m → (n : Node) × (slice_get s.graph (to k) ≡ Some n) × (n.kind ≡ m.kind)

-- the terms that were there keep their numbers
pub record Further (f g : Graph) (to more : ℕ → ℕ) : Type 0 where
  pub longer : length f ≤ length g
  pub kept : (k : ℕ) → k < length f → more k ≡ to k

pub further-same : (f : Graph) (to : ℕ → ℕ) → Further f f to to
further-same f to = record { longer = omega arith; kept = λ k l. refl }

pub further-still : (f g h : Graph) (to more last : ℕ → ℕ) → Further f g to more → Further g h more last → Further f h to last
further-still f g h to more last a b =
    let p : length f ≤ length g = a.longer in
    let q : length g ≤ length h = b.longer in
    record { longer = omega arith; kept = λ k l. b.kept k (omega arith) ∙ a.kept k l }

there : (s f : Terms) (to : ℕ → ℕ) → Same s f to → (k : ℕ) → k < length f.graph → to k < length s.graph
there s f to w k l = let m = stands f.graph k l in let n = w.kinds k m.0 m.1 in slice_get_within s.graph (to k) n.0 n.1

-- ---- values of later graphs

pub in-later : (f g : Graph) (to more : ℕ → ℕ) (v : Value) → Further f g to more → IsIn f v → IsIn g v
in-later f g to more v h i k e = let a : k < length f = i k e in let b : length f ≤ length g = h.longer in omega arith

pub all-later : (f g : Graph) (to more : ℕ → ℕ) (vs : List Value) → Further f g to more → AllIn f vs → AllIn g vs
all-later f g to more vs h i = each_more (IsIn f) (IsIn g) vs (λ v k. in-later f g to more v h k) i

pub value-later : (f g : Graph) (to more : ℕ → ℕ) (v : Value) → Further f g to more → IsIn f v → renumbered more v ≡ renumbered to v
value-later f g to more (Factor t s) h i = ap (λ k. Factor k s) (h.kept t (i t refl))
value-later f g to more (Filter t) h i = ap Filter (h.kept t (i t refl))
value-later f g to more (Labels t) h i = ap Labels (h.kept t (i t refl))
value-later f g to more (Numbers t) h i = ap Numbers (h.kept t (i t refl))
value-later f g to more v h i = refl

pub bounds-later : (f g : Graph) (to more : ℕ → ℕ) (bs : List Bound) → Further f g to more → AllIn f (values bs) → map (moved more) bs ≡ map (moved to) bs
bounds-later f g to more bs h i =
    map_each (moved more) (moved to) bs (each_more _ _ bs (λ (b : Bound) k. ap (bound b.parameter) (value-later f g to more b.value h k)) (each_of_map (IsIn f) (λ (b : Bound). b.value) bs i))

-- ---- one term more

-- the numbers where the next term has a number too
abbrev next : (ℕ → ℕ) → ℕ → ℕ → ℕ → ℕ
next to b number k = cond (nat_lt k b) (to k) number

next-old : (to : ℕ → ℕ) (b number k : ℕ) → k < b → next to b number k ≡ to k
next-old to b number k l = let e : nat_lt k b ≡ true = grind (arith, nat_tests) in ap (λ a. cond a (to k) number) e

next-last : (to : ℕ → ℕ) (b number : ℕ) → next to b number b ≡ number
next-last to b number = let e : nat_lt b b ≡ false = grind (arith, nat_tests) in ap (λ a. cond a (to b) number) e

last-tree : (g : Graph) (n : Node) → term_at (g ++ n ∷ []) (length g) ≡ tree_over (trees g) n
last-tree g n = ap (λ ts. tree_at ts (length g)) (trees-more [] g n) ∙ ap (tree_at (trees g ++ tree_over (trees g) n ∷ [])) (sym (length-trees g)) ∙ get_or-append_seam (trees g) (tree_over (trees g) n) [] absent

-- a node over terms that are there
pub record Fits (f : Graph) (n : Node) : Type 0 where
  pub few : length n.inputs ≤ 3
  pub low : MentionsBelow n (length f)

module _ (s f : Terms) (to : ℕ → ℕ) (n : Node) (w : Same s f to) (x : Fits f.graph n) where
  few : length (moved_node to n).inputs ≤ 3
  few = let l : length n.inputs ≤ 3 = x.few in omega (arith, length-map n.inputs (moved_input to))

  low : MentionsBelow (moved_node to n) (length s.graph)
  low = mentions-moved to (length f.graph) (length s.graph) n x.low (there s f to w)

  tree : tree_over (trees s.graph) (moved_node to n) ≡ tree_over (trees f.graph) n
  tree = tree-moved to (trees f.graph) (trees s.graph) (length f.graph) n x.low w.trees

  pub next-further : (number : ℕ) → Further f.graph (f.graph ++ n ∷ []) to (next to (length f.graph) number)
  next-further number = record { longer = omega (arith, length-append f.graph (n ∷ [])); kept = λ k l. next-old to (length f.graph) number k l }

  -- it is there, or comes last
  pub put-same : (i : Interned) (names more : List (List ℕ)) → names ≡ more → interned s.graph (moved_node to n) ≡ Some i
      → Same (terms i.graph names) (terms (f.graph ++ n ∷ []) more) (next to (length f.graph) i.number)
  put-same i names more e h = record {
    graph = p.graph;
    firsts =
        subst (λ ts. AreFirsts [] ts (trees i.graph)) (ap (λ t. trees f.graph ++ t ∷ []) tree ∙ sym (trees-more [] f.graph n))
        (firsts-more [] (trees f.graph) (trees s.graph) (trees i.graph) (tree_over (trees s.graph) (moved_node to n)) w.firsts p.trees);
    names = e;
    few = p.few w.few;
    trees = λ k l. elim (cases_lt k (length f.graph)) [
      | inl r ↦ ap (term_at i.graph) (next-old to (length f.graph) i.number k r) ∙ p.later.same (to k) (there s f to w k r) ∙ w.trees k r ∙ sym ((later-more f.graph n).same k r)
      | inr r ↦
          let at : k ≡ length f.graph = (let b : k < length (f.graph ++ n ∷ []) = l in omega (arith, length-append f.graph (n ∷ []))) in
          ap (λ j. term_at i.graph (next to (length f.graph) i.number j)) at ∙ ap (term_at i.graph) (next-last to (length f.graph) i.number) ∙ p.tree ∙ tree
          ∙ sym (last-tree f.graph n) ∙ ap (term_at (f.graph ++ n ∷ [])) (sym at)
    ];
    kinds = λ k m q. elim (parts f.graph n m k q) [
      | inl r ↦
          let a = w.kinds k m r in
          (a.0, ap (slice_get i.graph) (next-old to (length f.graph) i.number k (slice_get_within f.graph k m r)) ∙ interned-grows s.graph (moved_node to n) i h (to k) a.0 a.1, a.2)
      | inr r ↦ (
        moved_node to n,
        ap (λ j. slice_get i.graph (next to (length f.graph) i.number j)) r.0 ∙ ap (slice_get i.graph) (next-last to (length f.graph) i.number) ∙ (shared s.graph (moved_node to n) i h).0,
        ap (λ (y : Node). y.kind) (sym r.1),
      )
    ];
  }
    where
      p : IsPut s.graph (moved_node to n) i
      p = put s.graph (moved_node to n) i w.graph few low h

  -- there is no room for it: it is a tree too many
  pub put-over : interned s.graph (moved_node to n) ≡ None → IsOver (f.graph ++ n ∷ [])
  put-over h = subst HasMany (sym (trees-more [] f.graph n)) (record {
    some = trees more;
    many = (let full : most_terms ≤ length s.graph = p.full in omega (arith, length-trees more, length-append s.graph (moved_node to n ∷ [])));
    different = λ j k a b q. one_tree more p.graph (term_at more k) j k (omega (arith, length-trees more)) (omega (arith, length-trees more)) q refl;
    among = λ k a. elim (cases_lt k (length s.graph)) [
      | inl l ↦ Contains-append_left (trees f.graph) (t ∷ []) (term_at more k) (subst (Contains (trees f.graph)) (sym ((later-more s.graph (moved_node to n)).same k l))
          (firsts-in [] (trees f.graph) (trees s.graph) (term_at s.graph k) w.firsts (Contains-get_or (trees s.graph) k absent (omega (arith, length-trees s.graph)))))
      | inr l ↦
          let at : length s.graph ≡ k = omega (arith, length-trees more, length-append s.graph (moved_node to n ∷ [])) in
          Contains-append_right (trees f.graph) (t ∷ []) (term_at more k) (subst (Contains (t ∷ [])) (sym tree ∙ sym p.last ∙ ap (term_at more) at) (Contains-get_or (t ∷ []) 0 absent (omega arith)))
    ];
  })
    where
      more : Graph
      more = s.graph ++ moved_node to n ∷ []

      t : Term
      t = tree_over (trees f.graph) n

      p : IsFull s.graph (moved_node to n)
      p = refused s.graph (moved_node to n) w.graph few low h

-- ---- what is found in both

-- what is found, in the graph and where no term is shared: the same but for the numbers of terms
pub record Means {A : Type 0} (In : Graph → A → Type 0) (move : (ℕ → ℕ) → A → A) (f : Graph) (to : ℕ → ℕ) (x y : Found A) : Type 0 where
  pub to_after : ℕ → ℕ
  pub further : Further f y.terms.graph to to_after
  pub inside : In y.terms.graph y.value
  pub is : x.value ≡ move to_after y.value
  pub same : Same x.terms y.terms to_after

abbrev pub MeansValue : Graph → (ℕ → ℕ) → Found Value → Found Value → Type 0
MeansValue f to x y = Means IsIn renumbered f to x y

abbrev MeansBounds : Graph → (ℕ → ℕ) → Found (List Bound) → Found (List Bound) → Type 0
MeansBounds f to x y = Means (λ g bs. AllIn g (values bs)) (λ more bs. map (moved more) bs) f to x y

-- what is found after something else
pub means-behind : {A : Type 0} (In : Graph → A → Type 0) (move : (ℕ → ℕ) → A → A) (f g : Graph) (to more : ℕ → ℕ) (x y : Found A) → Further f g to more → Means In move g more x y → Means In move f to x y
means-behind In move f g to more x y h m =
    record { to_after = m.to_after; further = further-still f g y.terms.graph to more m.to_after h m.further; inside = m.inside; is = m.is; same = m.same }

-- where there is no room in the graph, the trees are too many
abbrev pub Puts : {A : Type 0} → (Found A → Found A → Type 0) → Option (Found A) → Option (Found A) → Type 0
Puts R o None = ⊥
Puts R None (Some y) = IsOver y.terms.graph
Puts R (Some x) (Some y) = R x y

-- with the names
abbrev pub named : {A : Type 0} → List (List ℕ) → Option (A × Graph) → Option (Found A)
named names None = None
named names (Some r) = Some (found r.0 (terms r.1 names))

-- ---- constants

constant-fits : (f : Graph) (n : _) → Fits f (constant n)
constant-fits f n = record {
  few = omega arith;
  low = record {
    inputs = λ i j e. absurd (let no : None ≡ Some (TermInput j) = e in cc);
    mask = λ j e. absurd (let no : None ≡ Some j = e in cc);
    group = λ j e. absurd (let no : None ≡ Some j = e in cc);
  };
}

same-puts : (s f : Terms) (to : ℕ → ℕ) (v : Value) → Same s f to → IsIn f.graph v → Means IsIn renumbered f.graph to (found (renumbered to v) s) (found v f)
same-puts s f to v w i = record { to_after = to; further = further-same f.graph to; inside = i; is = refl; same = w }

pub factor-puts : (s f : Terms) (to : ℕ → ℕ) (v : Value) → Same s f to → IsIn f.graph v
    → Puts (MeansValue f.graph to) (named s.names (factor_value interned s.graph (renumbered to v))) (named f.names (factor_value added f.graph v))
unfolding factor_value
factor-puts s f to (Number n) w i = here (interned s.graph (constant n)) refl
  where
    x : Fits f.graph (constant n)
    x = constant-fits f.graph n

    here : (o : Option Interned) → interned s.graph (constant n) ≡ o
        → Puts (MeansValue f.graph to) (named s.names (constant_value o s.graph)) (Some (found (Factor (length f.graph) true) (terms (f.graph ++ constant n ∷ []) f.names)))
    here None e = put-over s f to (constant n) w x e
    here (Some j) e = record {
      to_after = next to (length f.graph) j.number;
      further = next-further s f to (constant n) w x j.number;
      inside = λ k q. (let y : length f.graph ≡ k = (let z : Some (length f.graph) ≡ Some k = q in cc) in omega (arith, length-append f.graph (constant n ∷ [])));
      is = ap (λ t. Factor t true) (sym (next-last to (length f.graph) j.number));
      same = put-same s f to (constant n) w x j s.names f.names w.names e;
    }
factor-puts s f to v w i = same-puts s f to v w i

place-puts : (s f : Terms) (to : ℕ → ℕ) (b : Bound) → Same s f to → IsIn f.graph b.value
    → Puts (MeansValue f.graph to) (named s.names (place_value interned s.graph (moved to b))) (named f.names (place_value added f.graph b))
place-puts s f to b w i = here (asks_factor b.parameter)
  where
    here : (a : Bool) → Puts (MeansValue f.graph to) (named s.names (cond a (factor_value interned s.graph (renumbered to b.value)) (Some (renumbered to b.value, s.graph))))
        (named f.names (cond a (factor_value added f.graph b.value) (Some (b.value, f.graph))))
    here true = factor-puts s f to b.value w i
    here false = same-puts s f to b.value w i

bounds-behind : (f g : Graph) (to more : ℕ → ℕ) (o q : Option (Found (List Bound))) → Further f g to more → Puts (MeansBounds g more) o q → Puts (MeansBounds f to) o q
bounds-behind f g to more o None h m = absurd m
bounds-behind f g to more None (Some y) h m = m
bounds-behind f g to more (Some x) (Some y) h m = means-behind (λ g bs. AllIn g (values bs)) (λ more bs. map (moved more) bs) f g to more x y h m

constants-put : (s f : Terms) (to : ℕ → ℕ) (done bs : List Bound) → Same s f to → AllIn f.graph (values done) → AllIn f.graph (values bs)
    → Puts (MeansBounds f.graph to) (named s.names (with_constants interned (map (moved to) done) s.graph (map (moved to) bs))) (named f.names (with_constants added done f.graph bs))
unfolding with_constants
constants-put s f to done [] w i k = record { to_after = to; further = further-same f.graph to; inside = i; is = refl; same = w }
constants-put s f to done (b ∷ bs) w i k = here (λ t g more done. constants-put t g more done bs) (place_value interned s.graph (moved to b)) (place_value added f.graph b) (place-puts s f to b w k.0)
  where
    rest : List Bound → List Bound → Value × Graph → Option (List Bound × Graph)
    rest done bs r = with_constants interned (done ++ bound b.parameter r.0 ∷ []) r.1 bs

    -- what is given after it
    Rest : Type 0
    Rest =
        (t g : Terms) (more : ℕ → ℕ) (done : List Bound) → Same t g more → AllIn g.graph (values done) → AllIn g.graph (values bs)
        → Puts (MeansBounds g.graph more) (named t.names (with_constants interned (map (moved more) done) t.graph (map (moved more) bs))) (named g.names (with_constants added done g.graph bs))

    here : Rest → (o q : Option (Value × Graph)) → Puts (MeansValue f.graph to) (named s.names o) (named f.names q)
        → Puts (MeansBounds f.graph to) (named s.names (option_and_then (rest (map (moved to) done) (map (moved to) bs)) o))
        (named f.names (option_and_then (λ r. with_constants added (done ++ bound b.parameter r.0 ∷ []) r.1 bs) q))
    here again o None h = absurd h
    here again None (Some y) h =
        let z = constants-add (done ++ bound b.parameter y.0 ∷ []) y.1 bs in
        subst (λ (r : Option (List Bound × Graph)). Puts (MeansBounds f.graph to) None (named f.names r)) (sym z.1) (over-later _ y.1 z.0.1 z.2 h)
    here again (Some x) (Some y) h =
        let c = bound b.parameter y.0 in
        let split : values (done ++ c ∷ []) ≡ values done ++ y.0 ∷ [] = map-append (λ (z : Bound). z.value) done (c ∷ []) in
        let m = again (terms x.1 s.names) (terms y.1 f.names) h.to_after (done ++ c ∷ []) h.same
        (subst (AllIn y.1) (sym split) (each_both (IsIn y.1) (values done) (y.0 ∷ []) (all-later f.graph y.1 to h.to_after (values done) h.further i) (h.inside, tt)))
        (all-later f.graph y.1 to h.to_after (values bs) h.further k.1) in
        let front : map (moved h.to_after) (done ++ c ∷ []) ≡ map (moved to) done ++ bound b.parameter x.0 ∷ [] =
        map-append (moved h.to_after) done (c ∷ []) ∙ ap (λ ds. ds ++ moved h.to_after c ∷ []) (bounds-later f.graph y.1 to h.to_after done h.further i)
        ∙ ap (λ v. map (moved to) done ++ bound b.parameter v ∷ []) (sym h.is) in
        bounds-behind f.graph y.1 to h.to_after (named s.names (rest (map (moved to) done) (map (moved to) bs) x)) (named f.names (with_constants added (done ++ c ∷ []) y.1 bs)) h.further
        (subst (λ ds. Puts (MeansBounds y.1 h.to_after) (named s.names (with_constants interned ds x.1 (map (moved to) bs))) (named f.names (with_constants added (done ++ c ∷ []) y.1 bs))) front
        (subst (λ cs. Puts (MeansBounds y.1 h.to_after) (named s.names (with_constants interned (map (moved h.to_after) (done ++ c ∷ [])) x.1 cs)) (named f.names (with_constants added (done ++ c ∷ []) y.1 bs)))
        (bounds-later f.graph y.1 to h.to_after bs h.further k.1) m))

-- ---- operations

node-fits : (f : Graph) (o : Operation) (bs : List Bound) (names : List (List ℕ)) → AllIn f (values bs) → Fits f (node_for o bs names)
unfolding node_for
node-fits f o bs names i = record { few = few-inputs o bs; low = node-mentions f o bs names i }

node-puts : (s f : Terms) (to : ℕ → ℕ) (o : Operation) (bs : List Bound) → Same s f to → AllIn f.graph (values bs) → Puts (MeansValue f.graph to) (node_made interned o (map (moved to) bs) s) (node_made added o bs f)
unfolding node_made
node-puts s f to o bs w i = here (interned s.graph (node_for o (map (moved to) bs) s.names)) refl
  where
    n : Node
    n = node_for o bs f.names

    x : Fits f.graph n
    x = node-fits f.graph o bs f.names i

    is-node : node_for o (map (moved to) bs) s.names ≡ moved_node to n
    is-node = node-moved to o bs s.names ∙ ap (λ names. moved_node to (node_for o bs names)) w.names

    put-is : (q : Option Interned) → interned s.graph (node_for o (map (moved to) bs) s.names) ≡ q → interned s.graph (moved_node to n) ≡ q
    put-is q e = ap (interned s.graph) (sym is-node) ∙ e

    here : (q : Option Interned) → interned s.graph (node_for o (map (moved to) bs) s.names) ≡ q
        → Puts (MeansValue f.graph to) (with_node o (map (moved to) bs) s.names q) (Some (found (result_for o bs (length f.graph)) (terms (f.graph ++ n ∷ []) (names_after o bs f.names))))
    here None e = put-over s f to n w x (put-is None e)
    here (Some j) e =
        let more = next to (length f.graph) j.number in
        let h = next-further s f to n w x j.number in
        record {
          to_after = more;
          further = h;
          inside = λ k q. (let y : length f.graph ≡ k = (let z : Some (length f.graph) ≡ Some k = sym (result-term o bs (length f.graph)) ∙ q in cc) in omega (arith, length-append f.graph (n ∷ [])));
          is =
              ap (result_for o (map (moved to) bs)) (sym (next-last to (length f.graph) j.number)) ∙ ap (λ cs. result_for o cs (more (length f.graph))) (sym (bounds-later f.graph (f.graph ++ n ∷ []) to more bs h i))
              ∙ result-moved more o bs (length f.graph);
          same = put-same s f to n w x j (names_after o (map (moved to) bs) s.names) (names_after o bs f.names) (names-moved to o bs s.names ∙ ap (names_after o bs) w.names) (put-is (Some j) e);
        }

pub made-puts : (s f : Terms) (to : ℕ → ℕ) (o : Operation) (bs : List Bound) → Same s f to → AllIn f.graph (values bs) → Puts (MeansValue f.graph to) (made interned o (map (moved to) bs) s) (made added o bs f)
unfolding made
made-puts s f to o bs w i = here (with_constants interned [] s.graph (map (moved to) bs)) (with_constants added [] f.graph bs) (constants-put s f to [] bs w tt i)
  where
    here : (a b : Option (List Bound × Graph)) → Puts (MeansBounds f.graph to) (named s.names a) (named f.names b)
        → Puts (MeansValue f.graph to) (option_and_then (λ r. node_made interned o r.0 (terms r.1 s.names)) a) (option_and_then (λ r. node_made added o r.0 (terms r.1 f.names)) b)
    here a None h = absurd h
    here None (Some y) h =
        let z = node-adds o y.0 (terms y.1 f.names) in
        subst (λ r. Puts (MeansValue f.graph to) None r) (sym z.1) (over-later _ y.1 z.0.terms.graph z.2 h)
    here (Some x) (Some y) h =
        behind (node_made interned o x.0 (terms x.1 s.names)) (node_made added o y.0 (terms y.1 f.names))
        (subst (λ bs. Puts (MeansValue y.1 h.to_after) (node_made interned o bs (terms x.1 s.names)) (node_made added o y.0 (terms y.1 f.names))) (sym h.is)
        (node-puts (terms x.1 s.names) (terms y.1 f.names) h.to_after o y.0 h.same h.inside))
      where
        behind : (p q : Option (Found Value)) → Puts (MeansValue y.1 h.to_after) p q → Puts (MeansValue f.graph to) p q
        behind p None m = absurd m
        behind None (Some v) m = m
        behind (Some u) (Some v) m = means-behind IsIn renumbered f.graph y.1 to h.to_after u v h.further m
