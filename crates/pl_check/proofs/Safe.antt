-- What may stand in a window.
use Rattle.std.proofs.Common.{◌≡◌, ◌==◌, ℕ, zero, suc, length, Bool, true, false, ◌&&◌, ◌||◌, not, cond, List, [], ◌∷◌, ◌++◌, map, Option, Some, None, slice_get, refl, sym, ap, subst, ◌∙◌, ◌⊎◌, inl, inr, arith}
use Rattle.std.specs.Prelude.{option_and_then}
use Rattle.std.specs.List.{list_all, list_any, filter_map, cons_option}
use Rattle.std.proofs.Math.Bool.{or-true, not-or_self}
use Rattle.std.proofs.lemmas.Bool.{and_parts, eqb-true}
use Rattle.pl_spec.specs.declared.Column.{Column}
use Rattle.pl_pipeline.specs.Kind.{Kind}
use Rattle.pl_pipeline.specs.Term.{Graph, Node, Input, BarColumn, TermInput}
use Rattle.pl_terms.specs.Windows.{row_of}
use Rattle.pl_terms.specs.Sorts.{sort_of, is_windowed, is_safe_kind, is_safe_over, IsSafe, of_kind, of_inputs, of_terms, IsLocal, ReadsSafe}
use Rattle.pl_check.specs.declared.operation.Operation.{Operation}
use Rattle.pl_pipeline.specs.declared.WindowKind.TheVariants as window
use Rattle.pl_pipeline.specs.declared.Summary.TheVariants as summary
use Rattle.pl_check.specs.declared.operation.Operation.TheVariants as op
use Rattle.pl_check.specs.declared.operation.Parameter.{Parameter}
use Rattle.pl_check.specs.declared.operation.Parameter.TheVariants as parameter
use Rattle.pl_check.specs.Parameters.{same_parameter}
use Rattle.pl_check.specs.Values.{Value, Bars, Factor, Filter, Labels, Numbers, Bound, given, is_safe, is_filter, is_bars}
use Rattle.pl_check.specs.Operations.{parameters}
use Rattle.pl_check.specs.Rules.{each, takes, is_safe_for}
use Rattle.pl_check.specs.Results.{kind_for, result_for, columns_of, gives_input, input_in, input_for, inputs_for, all_safe, has_no_bars, nests_over, nests_safe, is_window_safe}
use Rattle.pl_check.specs.Standing.{IsInGraph, AreInGraph}
use Rattle.pl_check.proofs.Lists.{all-has, test-given, stand-given, same-self, or-right}

-- a value that is safe, as an input
pub value-safe : (g : Graph) (v : Value) (j : ℕ) → IsInGraph g v → is_safe v ≡ true → input_in v ≡ Some (TermInput j) → IsSafe g j
value-safe g (Factor t s) j f h e = subst (IsSafe g) (let q : Some (TermInput t) ≡ Some (TermInput j) = e in let z : t ≡ j = cc in z) (f.1 h)
value-safe g (Filter t) j f h e = subst (IsSafe g) (let q : Some (TermInput t) ≡ Some (TermInput j) = e in let z : t ≡ j = cc in z) f.1
value-safe g (Labels t) j f h e = subst (IsSafe g) (let q : Some (TermInput t) ≡ Some (TermInput j) = e in let z : t ≡ j = cc in z) f.1
value-safe g (Numbers t) j f h e = subst (IsSafe g) (let q : Some (TermInput t) ≡ Some (TermInput j) = e in let z : t ≡ j = cc in z) f.1
value-safe g v j f h e = absurd (cc)

-- it stays so in a graph that has all terms of the old one
pub safe-kept : (g h : Graph) (k : ℕ) → ((k : ℕ) (n : Node) → slice_get g k ≡ Some n → slice_get h k ≡ Some n) → IsSafe g k → IsSafe h k
safe-kept g h k f (of_kind n e s) = of_kind n (f k n e) s
safe-kept g h k f (of_inputs n e s r) = of_inputs n (f k n e) s (λ i j q. safe-kept g h j f (r i j q))
safe-kept g h k f (of_terms n e s b r) = of_terms n (f k n e) s b (λ i j q. safe-kept g h j f (r i j q))

pub reads-kept : (g h : Graph) (n : Node) → ((k : ℕ) (n : Node) → slice_get g k ≡ Some n → slice_get h k ≡ Some n) → ReadsSafe g n → ReadsSafe h n
reads-kept g h n f s w i j q = safe-kept g h j f (s w i j q)

-- and so does what is local
pub local-kept : (g h : Graph) (k : ℕ) → ((k : ℕ) (n : Node) → slice_get g k ≡ Some n → slice_get h k ≡ Some n) → IsLocal g k → IsLocal h k
local-kept g h k f (IsLocal.safe s) = IsLocal.safe (safe-kept g h k f s)
local-kept g h k f (IsLocal.formula n e w) = IsLocal.formula n (f k n e) w
local-kept g h k f (IsLocal.operation n e w r) = IsLocal.operation n (f k n e) w (λ i j q. local-kept g h j f (r i j q))

-- ---- the inputs of a node

-- an input that is a term is what some parameter is given
abbrev pub From : List Bound → List Parameter → ℕ → Type 0
From bs ps j = (p : Parameter) × (v : Value) × (list_any (same_parameter p) ps ≡ true) × (gives_input p ≡ true) × (given bs p ≡ Some v) × (input_in v ≡ Some (TermInput j))

later : (bs : List Bound) (q : Parameter) (ps : List Parameter) (j : ℕ) → From bs ps j → From bs (q ∷ ps) j
later bs q ps j r = (r.0, r.1, ap (λ b. same_parameter r.0 q || b) r.2 ∙ or-true (same_parameter r.0 q), r.3, r.4, r.5)

given-input : (a : Bool) (o : Option Value) (j : ℕ) → cond a (option_and_then input_in o) None ≡ Some (TermInput j) → (a ≡ true) × ((v : Value) × (o ≡ Some v) × (input_in v ≡ Some (TermInput j)))
given-input true (Some v) j h = (refl, (v, refl, h))
given-input a o j h = absurd (cc)

from-parameters : (bs : List Bound) (ps : List Parameter) (i j : ℕ) → slice_get (filter_map (input_for bs) ps) i ≡ Some (TermInput j) → From bs ps j
from-parameters bs [] i j h = absurd (let no : None ≡ Some (TermInput j) = h in cc)
from-parameters bs (q ∷ qs) i j h = here (input_for bs q) refl i h (λ k e. from-parameters bs qs k j e)
  where
    here : (o : Option Input) → input_for bs q ≡ o → (i : ℕ) → slice_get (cons_option o (filter_map (input_for bs) qs)) i ≡ Some (TermInput j)
        → ((k : ℕ) → slice_get (filter_map (input_for bs) qs) k ≡ Some (TermInput j) → From bs qs j) → From bs (q ∷ qs) j
    here None e i h f = later bs q qs j (f i h)
    here (Some x) e zero h f =
        let same : x ≡ TermInput j = (let s : Some x ≡ Some (TermInput j) = h in cc) in
        let r = given-input (gives_input q) (given bs q) j (e ∙ ap Some same) in
        (q, r.1.0, ap (λ b. b || list_any (same_parameter q) qs) (same-self q), r.0, r.1.1, r.1.2)
    here (Some x) e (suc k) h f = later bs q qs j (f k h)

behind-columns : (cs : List Column) (is : List Input) (i j : ℕ) → slice_get (map BarColumn cs ++ is) i ≡ Some (TermInput j) → (k : ℕ) × (slice_get is k ≡ Some (TermInput j))
behind-columns [] is i j h = (i, h)
behind-columns (c ∷ cs) is zero j h = absurd (let no : Some (BarColumn c) ≡ Some (TermInput j) = h in cc)
behind-columns (c ∷ cs) is (suc i) j h = behind-columns cs is i j h

pub from-inputs : (o : Operation) (bs : List Bound) (i j : ℕ) → slice_get (inputs_for o bs) i ≡ Some (TermInput j) → From bs (parameters o) j
from-inputs o bs i j h =
    let r = behind-columns (columns_of o) (filter_map (input_for bs) (parameters o)) i j h in
    from-parameters bs (parameters o) r.0 j r.1

-- where all that is given is safe, the inputs are
pub inputs-safe : (g : Graph) (o : Operation) (bs : List Bound) → AreInGraph g bs → all_safe bs ≡ true → (i j : ℕ) → slice_get (inputs_for o bs) i ≡ Some (TermInput j) → IsSafe g j
inputs-safe g o bs k h i j e = here (from-inputs o bs i j e)
  where
    here : From bs (parameters o) j → IsSafe g j
    here (p, v, own, gives, is, input) = value-safe g v j (stand-given g bs p v k is) (test-given (λ q w. is_safe w) bs p v h is) input

-- ---- windows over terms alone

bars-only : (v : Value) (c : Column) → input_in v ≡ Some (BarColumn c) → is_bars v ≡ true
bars-only (Bars b) c e = refl
bars-only v c e = absurd (cc)

given-bars : (a : Bool) (o : Option Value) (c : Column) → cond a (option_and_then input_in o) None ≡ Some (BarColumn c) → (v : Value) × (o ≡ Some v) × (is_bars v ≡ true)
given-bars true (Some v) c h = (v, refl, bars-only v c h)
given-bars a o c h = absurd (cc)

-- where no bar column is given, no parameter gives one
no-bars_given : (bs : List Bound) (ps : List Parameter) (i : ℕ) (c : Column) → has_no_bars bs ≡ true → slice_get (filter_map (input_for bs) ps) i ≡ Some (BarColumn c) → ⊥
no-bars_given bs [] i c k h = let no : None ≡ Some (BarColumn c) = h in cc
no-bars_given bs (q ∷ qs) i c k h = here (input_for bs q) refl i h (λ j e. no-bars_given bs qs j c k e)
  where
    here : (o : Option Input) → input_for bs q ≡ o → (i : ℕ) → slice_get (cons_option o (filter_map (input_for bs) qs)) i ≡ Some (BarColumn c)
        → ((j : ℕ) → slice_get (filter_map (input_for bs) qs) j ≡ Some (BarColumn c) → ⊥) → ⊥
    here None e i h f = f i h
    here (Some x) e zero h f =
        let same : x ≡ BarColumn c = (let s : Some x ≡ Some (BarColumn c) = h in cc) in
        let r = given-bars (gives_input q) (given bs q) c (e ∙ ap Some same) in
        let none : not (is_bars r.0) ≡ true = test-given (λ p w. not (is_bars w)) bs q r.0 k r.1 in
        let no : false ≡ true = sym (ap not r.2) ∙ none in cc
    here (Some x) e (suc j) h f = f j h

no-columns : (cs : List Column) → (length cs == 0) ≡ true → cs ≡ []
no-columns [] h = refl
no-columns (c ∷ cs) h =
    let none : suc (length cs) ≡ 0 = eqb-true (suc (length cs)) 0 h in
    absurd (omega arith)

pub nested-bars : (o : Operation) (bs : List Bound) → nests_over o bs ≡ true → (i : ℕ) (c : Column) → slice_get (inputs_for o bs) i ≡ Some (BarColumn c) → ⊥
unfolding columns_of
nested-bars (op.Window k nests) bs h i c e =
    let parts = and_parts (nests && length (row_of k).columns == 0) (has_no_bars bs) h in
    let none = and_parts nests (length (row_of k).columns == 0) parts.0 in
    let own : inputs_for (op.Window k nests) bs ≡ filter_map (input_for bs) (parameters (op.Window k nests)) =
    ap (λ cs. map BarColumn cs ++ filter_map (input_for bs) (parameters (op.Window k nests))) (no-columns (row_of k).columns none.1) in
    no-bars_given bs (parameters (op.Window k nests)) i c parts.1 (ap (λ is. slice_get is i) (sym own) ∙ e)
nested-bars o bs h i c e = let no : false ≡ true = h in cc

pub nested-window : (o : Operation) (bs : List Bound) (names : List (List ℕ)) → nests_over o bs ≡ true → is_windowed (kind_for o bs names) ≡ true
unfolding kind_for
nested-window (op.Window k nests) bs names h = refl
nested-window o bs names h = absurd (let no : false ≡ true = h in cc)

-- ---- windows

-- what gives an input to a window
unfoldable in_window : Parameter → Bool
in_window parameter.BarColumn = true
in_window parameter.X = true
in_window parameter.Weights = true
in_window parameter.Y = true
in_window parameter.WindowFilter = true
in_window p = false

window-parameters : (o : Operation) (bs : List Bound) (names : List (List ℕ)) → cond (is_windowed (kind_for o bs names)) (list_all (λ p. not (gives_input p) || in_window p) (parameters o)) true ≡ true
unfolding kind_for parameters gives_input in_window
window-parameters (op.Window window.Latest nests) bs names = refl
window-parameters (op.Summarize summary.Mean) bs names = refl
window-parameters o bs names = refl

bars-input : (v : Value) (j : ℕ) → is_bars v ≡ true → input_in v ≡ Some (TermInput j) → ⊥
bars-input (Bars c) j h e = let no : Some (BarColumn c) ≡ Some (TermInput j) = e in cc
bars-input v j h e = let no : false ≡ true = h in cc

filter-safe : (v : Value) → is_filter v ≡ true → is_safe v ≡ true
filter-safe (Factor t s) h = absurd (let no : false ≡ true = h in cc)
filter-safe v h = refl

place-safe : (g : Graph) (p : Parameter) (v : Value) (j : ℕ) → in_window p ≡ true → takes p v ≡ true → is_safe_for p v ≡ true → IsInGraph g v → input_in v ≡ Some (TermInput j) → IsSafe g j
unfolding in_window takes is_safe_for
place-safe g parameter.BarColumn v j w t s k e = absurd (bars-input v j t e)
place-safe g parameter.X v j w t s k e = value-safe g v j k s e
place-safe g parameter.Weights v j w t s k e = value-safe g v j k s e
place-safe g parameter.Y v j w t s k e = value-safe g v j k s e
place-safe g parameter.WindowFilter v j w t s k e = value-safe g v j k (filter-safe v t) e
place-safe g p v j w t s k e = absurd (let no : false ≡ true = w in cc)

pub windows-safe : (g : Graph) (o : Operation) (bs : List Bound) (names : List (List ℕ)) → AreInGraph g bs → each takes bs ≡ true → each is_safe_for bs ≡ true → is_windowed (kind_for o bs names) ≡ true
    → (i j : ℕ) → slice_get (inputs_for o bs) i ≡ Some (TermInput j) → IsSafe g j
windows-safe g o bs names k t s w i j e = here (from-inputs o bs i j e)
  where
    all : list_all (λ p. not (gives_input p) || in_window p) (parameters o) ≡ true
    all = sym (ap (λ a. cond a (list_all (λ p. not (gives_input p) || in_window p) (parameters o)) true) w) ∙ window-parameters o bs names

    here : From bs (parameters o) j → IsSafe g j
    here (p, v, own, gives, is, input) =
        place-safe g p v j
        (or-right (not (gives_input p)) (in_window p)
        (all-has (λ q. not (gives_input q) || in_window q) (parameters o) p all own) (ap not gives))
        (test-given takes bs p v t is) (test-given is_safe_for bs p v s is) (stand-given g bs p v k is) input

-- ---- what a node gives

-- what is called safe is so by its kind, or where all that is given is
abbrev pub called_safe : Value → Bool
called_safe (Factor t s) = s
called_safe (Filter t) = true
called_safe (Labels t) = true
called_safe (Numbers t) = true
called_safe v = false

abbrev SafeResult : Kind → Bool → Bool → Value → Type 0
SafeResult k a n v = (not (called_safe v) || ((is_safe_kind k || (is_safe_over k && a)) || (n && a))) ≡ true

-- the operation that gives what it is given
abbrev pub is_like : Operation → Bool
is_like op.Downsample = true
is_like o = false

result-called : (o : Operation) (bs : List Bound) (names : List (List ℕ)) (t : ℕ) → is_like o ≡ false → SafeResult (kind_for o bs names) (all_safe bs) (nests_over o bs) (result_for o bs t)
unfolding kind_for result_for sort_of is_safe_kind is_safe_over
result-called op.Downsample bs names t h = absurd (let no : true ≡ false = h in cc)
result-called (op.Window window.Latest nests) bs names t h = not-or_self (is_window_safe (kind_for (op.Window window.Latest nests) bs names) (all_safe bs) || nests_safe (op.Window window.Latest nests) bs)
result-called (op.Summarize summary.Mean) bs names t h = not-or_self (is_window_safe (kind_for (op.Summarize summary.Mean) bs names) (all_safe bs) || nests_safe (op.Summarize summary.Mean) bs)
result-called o bs names t h = not-or_self (is_window_safe (kind_for o bs names) (all_safe bs) || nests_safe o bs)

called-cases : (s a b n c : Bool) → s ≡ true → (not s || ((a || (b && c)) || (n && c))) ≡ true → (a ≡ true) ⊎ (((b ≡ true) ⊎ (n ≡ true)) × (c ≡ true))
called-cases true true b n c e h = inl refl
called-cases true false true true true e h = inr (inl refl, refl)
called-cases true false true false true e h = inr (inl refl, refl)
called-cases true false false true true e h = inr (inr refl, refl)
called-cases s a b n c e h = absurd (cc)

-- the term of a node that is called safe
pub result-safe : (g : Graph) (o : Operation) (bs : List Bound) (names : List (List ℕ)) (t : ℕ) (n : Node) → is_like o ≡ false → slice_get g t ≡ Some n → n.kind ≡ kind_for o bs names → n.inputs ≡ inputs_for o bs → AreInGraph g bs
    → (v : Value) → result_for o bs t ≡ v → called_safe v ≡ true → IsSafe g t
result-safe g o bs names t n own at k is f v e h =
    elim (called-cases (called_safe v) (is_safe_kind (kind_for o bs names)) (is_safe_over (kind_for o bs names)) (nests_over o bs) (all_safe bs) h
    (subst (SafeResult (kind_for o bs names) (all_safe bs) (nests_over o bs)) e (result-called o bs names t own))) [
      | inl x ↦ of_kind n at (ap is_safe_kind k ∙ x)
      | inr x ↦ over x.0 (λ i j q. inputs-safe g o bs f x.1 i j (ap (λ ns. slice_get ns i) (sym is) ∙ q))
    ]
  where
    over : (is_safe_over (kind_for o bs names) ≡ true) ⊎ (nests_over o bs ≡ true)
        → ((i j : ℕ) → slice_get n.inputs i ≡ Some (TermInput j) → IsSafe g j) → IsSafe g t
    over (inl x) r = of_inputs n at (ap is_safe_over k ∙ x) r
    over (inr x) r =
        of_terms n at (ap is_windowed k ∙ nested-window o bs names x)
        (λ i c q. nested-bars o bs x i c (ap (λ ns. slice_get ns i) (sym is) ∙ q)) r
