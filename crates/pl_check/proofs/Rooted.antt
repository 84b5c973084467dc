-- The node of an operation over terms of other numbers: the same node, and the same tree.
use Rattle.std.proofs.Common.{◌≡◌, ℕ, zero, suc, ◌<◌, Bool, true, false, cond, List, [], ◌∷◌, ◌++◌, length, map, Option, Some, None, option_map, slice_get, refl, sym, ap, ◌∙◌, arith}
use Rattle.std.specs.Prelude.{filter_map, option_and_then}
use Rattle.std.specs.List.{cons_option}
use Rattle.std.proofs.lemmas.List.{map-append}
use Rattle.pl_spec.specs.declared.Column.{Column}
use Rattle.pl_spec.proofs.Each.{Each, each_of_map}
use Rattle.pl_pipeline.specs.Kind.{Kind}
use Rattle.pl_pipeline.specs.Term.{Term, node, Input, BarColumn, TermInput, Node, Graph, MentionsBelow, tree_at, input_tree, number_tree, tree_over}
use Rattle.pl_check.specs.declared.operation.Operation.{Operation}
use Rattle.pl_check.specs.declared.operation.Parameter.{Parameter}
use Rattle.pl_check.specs.declared.operation.Parameter.TheVariants.{Mask, Groupby}
use Rattle.pl_check.specs.Values.{Value, Bars, Factor, Bound, given}
use Rattle.pl_check.specs.Operations.{parameters}
use Rattle.pl_check.specs.Results.{columns_of, term_in, input_in, gives_input, input_for, inputs_for, term_given, node_for}
use Rattle.pl_check.proofs.Lists.{given-each}
use Rattle.pl_check.proofs.Safe.{From, from-inputs}
use Rattle.pl_check.proofs.Renumbered.{renumbered, moved, given-moved, kind-moved, window-for-moved}

-- ---- values

-- the value's term, where it has one, is in the graph
abbrev pub IsIn : Graph → Value → Type 0
IsIn g v = (k : ℕ) → term_in v ≡ Some k → k < length g

abbrev pub AllIn : Graph → List Value → Type 0
AllIn g vs = Each (IsIn g) vs

abbrev pub values : List Bound → List Value
values bs = map (λ b. b.value) bs

term-moved : (to : ℕ → ℕ) (v : Value) → term_in (renumbered to v) ≡ option_map to (term_in v)
term-moved to (Factor t s) = refl
term-moved to v = refl

-- ---- the node

abbrev pub moved_input : (ℕ → ℕ) → Input → Input
moved_input to (BarColumn c) = BarColumn c
moved_input to (TermInput k) = TermInput (to k)

-- the node over terms of other numbers
abbrev pub moved_node : (ℕ → ℕ) → Node → Node
moved_node to n = record { kind = n.kind; inputs = map (moved_input to) n.inputs; mask = option_map to n.mask; group = option_map to n.group; window = n.window }

term-given-moved : (to : ℕ → ℕ) (bs : List Bound) (p : Parameter) → term_given (map (moved to) bs) p ≡ option_map to (term_given bs p)
term-given-moved to bs p = ap (option_and_then term_in) (given-moved to bs p) ∙ here (given bs p)
  where
    here : (o : Option Value) → option_and_then term_in (option_map (renumbered to) o) ≡ option_map to (option_and_then term_in o)
    here None = refl
    here (Some v) = term-moved to v

input-moved : (to : ℕ → ℕ) (bs : List Bound) (p : Parameter) → input_for (map (moved to) bs) p ≡ option_map (moved_input to) (input_for bs p)
input-moved to bs p = ap (λ o. cond (gives_input p) (option_and_then input_in o) None) (given-moved to bs p) ∙ here (gives_input p) (given bs p)
  where
    here : (a : Bool) (o : Option Value) → cond a (option_and_then input_in (option_map (renumbered to) o)) None ≡ option_map (moved_input to) (cond a (option_and_then input_in o) None)
    here false o = refl
    here true None = refl
    here true (Some (Bars c)) = refl
    here true (Some v) = refl

filter-moved : (to : ℕ → ℕ) (h k : Parameter → Option Input) → ((p : Parameter) → k p ≡ option_map (moved_input to) (h p)) → (ps : List Parameter) → filter_map k ps ≡ map (moved_input to) (filter_map h ps)
filter-moved to h k f [] = refl
filter-moved to h k f (p ∷ ps) = ap (λ o. cons_option o (filter_map k ps)) (f p) ∙ ap (cons_option (option_map (moved_input to) (h p))) (filter-moved to h k f ps) ∙ here (h p)
  where
    here : (o : Option Input) → cons_option (option_map (moved_input to) o) (map (moved_input to) (filter_map h ps)) ≡ map (moved_input to) (cons_option o (filter_map h ps))
    here None = refl
    here (Some i) = refl

columns-moved : (to : ℕ → ℕ) (cs : List Column) → map BarColumn cs ≡ map (moved_input to) (map BarColumn cs)
columns-moved to [] = refl
columns-moved to (c ∷ cs) = ap (λ is. BarColumn c ∷ is) (columns-moved to cs)

inputs-moved : (to : ℕ → ℕ) (o : Operation) (bs : List Bound) → inputs_for o (map (moved to) bs) ≡ map (moved_input to) (inputs_for o bs)
inputs-moved to o bs =
    ap (λ is. map BarColumn (columns_of o) ++ is) (filter-moved to (input_for bs) (input_for (map (moved to) bs)) (input-moved to bs) (parameters o))
    ∙ ap (λ is. is ++ map (moved_input to) (filter_map (input_for bs) (parameters o))) (columns-moved to (columns_of o))
    ∙ sym (map-append (moved_input to) (map BarColumn (columns_of o)) (filter_map (input_for bs) (parameters o)))

same-node : {k k' : Kind} {i i' : List Input} {m m' g g' : Option ℕ} {w w' : ℕ} → k ≡ k' → i ≡ i' → m ≡ m' → g ≡ g' → w ≡ w'
    → ◌≡◌ {A = Node} (record { kind = k; inputs = i; mask = m; group = g; window = w }) (record { kind = k'; inputs = i'; mask = m'; group = g'; window = w' })
same-node a b c d e = cc

pub node-moved : (to : ℕ → ℕ) (o : Operation) (bs : List Bound) (names : List (List ℕ)) → node_for o (map (moved to) bs) names ≡ moved_node to (node_for o bs names)
unfolding node_for
node-moved to o bs names = same-node (kind-moved to o bs names) (inputs-moved to o bs) (term-given-moved to bs Mask) (term-given-moved to bs Groupby) (window-for-moved to o bs)

-- ---- its tree

get-moved : (to : ℕ → ℕ) (is : List Input) (i : ℕ) → slice_get (map (moved_input to) is) i ≡ option_map (moved_input to) (slice_get is i)
get-moved to [] i = refl
get-moved to (x ∷ is) zero = refl
get-moved to (x ∷ is) (suc i) = get-moved to is i

same-term : {k : Kind} {w : ℕ} {x x' y y' z z' m m' p p' : Term} → x ≡ x' → y ≡ y' → z ≡ z' → m ≡ m' → p ≡ p' → node k w x y z m p ≡ node k w x' y' z' m' p'
same-term c d e f g = cc

-- where the trees at the numbers are the same
pub tree-moved : (to : ℕ → ℕ) (ts us : List Term) (b : ℕ) (n : Node) → MentionsBelow n b → ((k : ℕ) → k < b → tree_at us (to k) ≡ tree_at ts k) → tree_over us (moved_node to n) ≡ tree_over ts n
tree-moved to ts us b n low same = same-term (place 0) (place 1) (place 2) (number n.mask low.mask) (number n.group low.group)
  where
    number : (o : Option ℕ) → ((k : ℕ) → o ≡ Some k → k < b) → number_tree us (option_map to o) ≡ number_tree ts o
    number None l = refl
    number (Some k) l = same k (l k refl)

    input : (o : Option Input) → ((k : ℕ) → o ≡ Some (TermInput k) → k < b) → input_tree us (option_map (moved_input to) o) ≡ input_tree ts o
    input None l = refl
    input (Some (BarColumn c)) l = refl
    input (Some (TermInput k)) l = same k (l k refl)

    place : (i : ℕ) → input_tree us (slice_get (map (moved_input to) n.inputs) i) ≡ input_tree ts (slice_get n.inputs i)
    place i = ap (input_tree us) (get-moved to n.inputs i) ∙ input (slice_get n.inputs i) (λ k e. low.inputs i k e)

-- ---- what it mentions is there

pub mentions-moved : (to : ℕ → ℕ) (b c : ℕ) (n : Node) → MentionsBelow n b → ((k : ℕ) → k < b → to k < c) → MentionsBelow (moved_node to n) c
mentions-moved to b c n low there = record {
  inputs = λ i k h. input (slice_get n.inputs i) k (λ j e. low.inputs i j e) (sym (get-moved to n.inputs i) ∙ h);
  mask = λ k h. number n.mask k low.mask h;
  group = λ k h. number n.group k low.group h;
}
  where
    number : (o : Option ℕ) (k : ℕ) → ((j : ℕ) → o ≡ Some j → j < b) → option_map to o ≡ Some k → k < c
    number None k l h = absurd (let no : None ≡ Some k = h in cc)
    number (Some j) k l h = let e : to j ≡ k = (let q : Some (to j) ≡ Some k = h in cc) in let t : to j < c = there j (l j refl) in omega (arith, e)

    input : (o : Option Input) (k : ℕ) → ((j : ℕ) → o ≡ Some (TermInput j) → j < b) → option_map (moved_input to) o ≡ Some (TermInput k) → k < c
    input None k l h = absurd (let no : None ≡ Some (TermInput k) = h in cc)
    input (Some (BarColumn x)) k l h = absurd (let no : Some (BarColumn x) ≡ Some (TermInput k) = h in cc)
    input (Some (TermInput j)) k l h = let e : to j ≡ k = (let q : Some (TermInput (to j)) ≡ Some (TermInput k) = h in cc) in let t : to j < c = there j (l j refl) in omega (arith, e)

given-in : (g : Graph) (bs : List Bound) (p : Parameter) (v : Value) → AllIn g (values bs) → given bs p ≡ Some v → IsIn g v
given-in g bs p v i h = given-each (IsIn g) bs p v (each_of_map (IsIn g) (λ (b : Bound). b.value) bs i) h

term-given-in : (g : Graph) (bs : List Bound) (p : Parameter) → AllIn g (values bs) → (k : ℕ) → term_given bs p ≡ Some k → k < length g
term-given-in g bs p i k h = here (given bs p) refl h
  where
    here : (o : Option Value) → given bs p ≡ o → option_and_then term_in o ≡ Some k → k < length g
    here None e q = absurd (let no : None ≡ Some k = q in cc)
    here (Some v) e q = given-in g bs p v i e k q

-- a value that is an input, and no bar column, is a term
input-term : (v : Value) (k : ℕ) → input_in v ≡ Some (TermInput k) → term_in v ≡ Some k
input-term (Bars c) k h = cc
input-term v k h = cc

pub node-mentions : (g : Graph) (o : Operation) (bs : List Bound) (names : List (List ℕ)) → AllIn g (values bs) → MentionsBelow (node_for o bs names) (length g)
unfolding node_for
node-mentions g o bs names f = record {
  inputs = λ i k h. here k (from-inputs o bs i k h);
  mask = λ k h. term-given-in g bs Mask f k h;
  group = λ k h. term-given-in g bs Groupby f k h;
}
  where
    here : (k : ℕ) → From bs (parameters o) k → k < length g
    here k (p, v, own, gives, is, input) = given-in g bs p v f is k (input-term v k input)
