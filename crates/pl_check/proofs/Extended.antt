-- The script where no term is shared: what is judged later comes last, and a call of `number` alone adds a term
-- that is a number beside bars.
use Rattle.std.proofs.Common.{◌≡◌, ℕ, zero, suc, Bool, true, false, cond, ◌||◌, nat_le, nat_lt, length, not, List, [], ◌∷◌, ◌++◌, Option, Some, None, slice_get, Result, Ok, codes, refl, sym, ap, subst, ◌∙◌, append_assoc, append-nil}
use Rattle.std.specs.Prelude.{◌&&◌, is_some, option_and_then, if◌then◌else◌, pos, bytes_eq, find}
use Rattle.std.specs.List.{list_all, list_any}
use Rattle.std.specs.Result.{IfOk}
use Rattle.std.proofs.lemmas.Bool.{and_parts}
use Rattle.std.proofs.lemmas.List.Elements.{Contains-append_left}
use Rattle.std.proofs.lemmas.List.Folds.{list_any-append}
use Rattle.std.proofs.lemmas.Result.{IfOk-weaker}
use Rattle.std.proofs.lemmas.Slice.Eq.{bytes_eq-Decides}
use Rattle.pl_spec.specs.Limits.{most_columns}
use Rattle.pl_pipeline.specs.Kind as kind
use Rattle.pl_pipeline.specs.Kind.{Kind}
use Rattle.pl_pipeline.specs.Term.{Term, Node, Graph, tree_at, tree_over, trees_after, trees}
use Rattle.pl_pipeline.specs.Table.{Pipeline}
use Rattle.pl_pipeline.specs.declared.WindowKind.{WindowKind}
use Rattle.pl_pipeline.specs.declared.WindowKind.TheVariants as window
use Rattle.pl_pipeline.specs.declared.Summary.TheVariants as summary
use Rattle.pl_terms.specs.Windows.{row_of, formula_named, formulas_of, is_named}
use Rattle.pl_grammar.specs.declared.Place.{Place}
use Rattle.pl_grammar.specs.declared.PrefixSign.{PrefixSign}
use Rattle.pl_grammar.specs.declared.PrefixSign.TheVariants.{Minus, Not}
use Rattle.pl_grammar.specs.declared.BinarySign.{BinarySign}
use Rattle.pl_grammar.specs.declared.BinarySign.TheVariants as signs
use Rattle.pl_grammar.specs.Tree.{Tree, number, text, name, call, prefix, binary, member, method, Args, no_args, arg}
use Rattle.pl_grammar.specs.Script.{Head, LetHead, ColumnHead, ScreenHead, Statement}
use Rattle.pl_syntax.specs.Spells.{Parsed}
use Rattle.pl_check.specs.declared.fault.CheckFault.TheVariants.{WrongKind, TooManyTerms}
use Rattle.pl_check.specs.declared.operation.Operation.{Operation}
use Rattle.pl_check.specs.declared.operation.Operation.TheVariants as op
use Rattle.pl_check.specs.declared.operation.Parameter.TheVariants as parameter
use Rattle.pl_check.specs.Faults.{Broken, ◌>>=◌, or_fault}
use Rattle.pl_check.specs.Values.{Value, Factor, Labels, Number, Text, Bound, bound}
use Rattle.pl_check.specs.Numbered.{Call, calls, calls_among, statement_calls, is_number}
use Rattle.pl_check.specs.Operations.{Named, function_table, member_table, is_word, operation_in, first_function, function_named, member_named, operator, prefix_operator, without_parentheses}
use Rattle.pl_check.specs.Rules.{Written, form, broken, each, takes, has_all, parameter_of}
use Rattle.pl_check.specs.Results.{constant, kind_for, node_for}
use Rattle.pl_check.specs.Typed.{Terms, Found, found, Definition, factor_value, place_value, asks_factor, with_constants, node_made, made, applied, called, object_of, operands_of, prefixed, combined, method_of, written, kept_where, mask_of, without_mask, told_of, greatest_where, one_asset, names_one_asset, name_or_none, name_of_kind, names_age, aged, member_named_of, method_named_of, function_called, value_named, worth, args_worth, stored, Judged, let_judged, column_judged, screen_judged, head_judged, statement_judged, statements_judged, ended, typed_by, is_storable, is_term_filter, is_taken, has_column, nothing}
use Rattle.pl_check.specs.Trees.{added}
use Rattle.pl_check.specs.Numbering.{HasMany}
use Rattle.pl_check.proofs.Chained.{then-ok, found-ok, unless-ok, require-ok, either-ok}
use Rattle.pl_check.proofs.Growing.{terms}
use Rattle.pl_check.proofs.Placing.{bind-some}

-- ---- graphs with further trees

abbrev Extends : Graph → Graph → Type 0
Extends f g = (ts : List Term) × (trees g ≡ trees f ++ ts)

-- there are too many different trees
abbrev pub IsOver : Graph → Type 0
IsOver f = HasMany (trees f)

pub trees-more : (ts : List Term) (g : Graph) (n : Node) → trees_after ts (g ++ n ∷ []) ≡ trees_after ts g ++ tree_over (trees_after ts g) n ∷ []
trees-more ts [] n = refl
trees-more ts (m ∷ ms) n = trees-more (ts ++ tree_over ts m ∷ []) ms n

-- ---- numbers beside bars

abbrev pub is_beside : Kind → Bool
is_beside (kind.Number f n) = true
is_beside k = false

abbrev pub speaks : Graph → Bool
speaks g = list_any (λ (n : Node). is_beside n.kind) g

pub or-none : (a : Bool) → a ≡ (a || false)
or-none true = refl
or-none false = refl

pub or-both : (a b c : Bool) → ((a || b) || c) ≡ (a || (b || c))
or-both true b c = refl
or-both false b c = refl

pub or-turned : (a b : Bool) → (a || b) ≡ (b || a)
or-turned true true = refl
or-turned true false = refl
or-turned false true = refl
or-turned false false = refl

-- a node of the graph that is a number is one of those
pub any-at : (g : Graph) (k : ℕ) (n : Node) → slice_get g k ≡ Some n → is_beside n.kind ≡ true → speaks g ≡ true
any-at [] k n h e = absurd (let no : None ≡ Some n = h in cc)
any-at (m ∷ ms) zero n h e = let is : m ≡ n = (let s : Some m ≡ Some n = h in cc) in ap (λ (x : Node). is_beside x.kind || speaks ms) is ∙ ap (λ b. b || speaks ms) e
any-at (m ∷ ms) (suc k) n h e = ap (λ b. is_beside m.kind || b) (any-at ms k n h e) ∙ or-turned (is_beside m.kind) true

-- ---- what is added

-- further trees come last, a number beside bars among them or not
abbrev pub Adds : Bool → Graph → Graph → Type 0
Adds b f g = Extends f g × (speaks g ≡ (speaks f || b))

adds-none : (f : Graph) → Adds false f f
adds-none f = (([], sym (append-nil (trees f))), or-none (speaks f))

pub adds-both : (a b : Bool) (f g h : Graph) → Adds a f g → Adds b g h → Adds (a || b) f h
adds-both a b f g h x y = (
  (x.0.0 ++ y.0.0, y.0.1 ∙ ap (λ ts. ts ++ y.0.0) x.0.1 ∙ append_assoc (trees f) x.0.0 y.0.0),
  y.1 ∙ ap (λ c. c || b) x.1 ∙ or-both (speaks f) a b,
)

adds-one : (g : Graph) (n : Node) → Adds (is_beside n.kind) g (g ++ n ∷ [])
adds-one g n = (
  (tree_over (trees g) n ∷ [], trees-more [] g n),
  list_any-append (λ (m : Node). is_beside m.kind) g (n ∷ []) ∙ ap (λ b. speaks g || b) (sym (or-none (is_beside n.kind))),
)

-- too many are too many later
pub over-later : (b : Bool) (f g : Graph) → Adds b f g → IsOver f → IsOver g
over-later b f g e h = subst HasMany (sym e.0.1) (record { some = h.some; many = h.many; different = h.different; among = λ k l. Contains-append_left (trees f) e.0.0 (tree_at h.some k) (h.among k l) })

-- ---- constants and operations, for which there is always room

factor-adds : (g : Graph) (v : Value) → (r : Value × Graph) × (factor_value added g v ≡ Some r) × Adds false g r.1
unfolding factor_value
factor-adds g (Number n) = (_, refl, adds-one g (constant n))
factor-adds g v = ((v, g), refl, adds-none g)

place-adds : (g : Graph) (b : Bound) → (r : Value × Graph) × (place_value added g b ≡ Some r) × Adds false g r.1
place-adds g b = here (asks_factor b.parameter)
  where
    here : (a : Bool) → (r : Value × Graph) × (cond a (factor_value added g b.value) (Some (b.value, g)) ≡ Some r) × Adds false g r.1
    here true = factor-adds g b.value
    here false = ((b.value, g), refl, adds-none g)

pub constants-add : (done : List Bound) (g : Graph) (bs : List Bound) → (r : List Bound × Graph) × (with_constants added done g bs ≡ Some r) × Adds false g r.1
unfolding with_constants
constants-add done g [] = ((done, g), refl, adds-none g)
constants-add done g (b ∷ bs) =
    let x = place-adds g b in
    let q = constants-add (done ++ bound b.parameter x.0.0 ∷ []) x.0.1 bs in
    (q.0, ap (option_and_then (λ r. with_constants added (done ++ bound b.parameter r.0 ∷ []) r.1 bs)) x.1 ∙ q.1, adds-both false false g x.0.1 q.0.1 x.2 q.2)

-- ---- operations

abbrev makes : Operation → Bool
makes op.Number = true
makes op.Age = true
makes o = false

kind-makes : (o : Operation) (bs : List Bound) (names : List (List ℕ)) → is_beside (kind_for o bs names) ≡ makes o
unfolding kind_for
kind-makes op.Number bs names = refl
kind-makes op.Age bs names = refl
kind-makes o bs names = refl

pub node-adds : (o : Operation) (bs : List Bound) (f : Terms) → (r : Found Value) × (node_made added o bs f ≡ Some r) × Adds (makes o) f.graph r.terms.graph
unfolding node_made node_for
node-adds o bs f = (_, refl, subst (λ b. Adds b f.graph (f.graph ++ node_for o bs f.names ∷ [])) (kind-makes o bs f.names) (adds-one f.graph (node_for o bs f.names)))

made-adds : (o : Operation) (bs : List Bound) (f : Terms) → (r : Found Value) × (made added o bs f ≡ Some r) × Adds (makes o) f.graph r.terms.graph
unfolding made
made-adds o bs f =
    let x = constants-add [] f.graph bs in
    let q = node-adds o x.0.0 (terms x.0.1 f.names) in
    (q.0, ap (option_and_then (λ r. node_made added o r.0 (terms r.1 f.names))) x.1 ∙ q.1, adds-both false (makes o) f.graph x.0.1 q.0.terms.graph x.2 q.2)

-- what is answered is over a graph with more
abbrev pub Adding : {A : Type 0} → (A → Graph) → Bool → Graph → Result A Broken → Type 0
Adding F b f r = IfOk r (λ x. Adds b f (F x))

abbrev pub of_value : Found Value → Graph
of_value r = r.terms.graph

abbrev pub of_written : Found (List Written) → Graph
of_written r = r.terms.graph

abbrev pub of_judged : Judged → Graph
of_judged j = j.terms.graph

abbrev pub of_pipeline : Pipeline → Graph
of_pipeline p = p.graph

-- one after another
pub then-adds : {A B : Type 0} (F : A → Graph) (G : B → Graph) (a b : Bool) (f : Graph) (r : Result A Broken) (g : A → Result B Broken) → Adding F a f r → ((x : A) → Adding G b (F x) (g x)) → Adding G (a || b) f (r >>= g)
then-adds F G a b f r g h k = then-ok _ _ r g h (λ x e. IfOk-weaker (g x) _ _ (λ y l. adds-both a b f (F x) (G y) e l) (k x))

alike : {A : Type 0} (F : A → Graph) (a b : Bool) (f : Graph) (r : Result A Broken) → a ≡ b → Adding F a f r → Adding F b f r
alike F a b f r e h = subst (λ c. Adding F c f r) e h

applied-adds : (p : Place) (o : Operation) (bs : List Bound) (f : Terms) → Adding of_value (makes o) f.graph (applied added p o bs f)
unfolding applied
applied-adds p o bs f = let x = made-adds o bs f in unless-ok _ (broken bs) p _ (λ e. subst (λ r. Adding of_value (makes o) f.graph (or_fault TooManyTerms p r)) (sym x.1) x.2)

pub called-adds : (p : Place) (o : Operation) (bs : List Bound) (ws : List Written) (f : Terms) → Adding of_value (makes o) f.graph (called added p o bs ws f)
unfolding called
called-adds p o bs ws f = found-ok _ _ p (form o false bs ws) _ (λ cs e. applied-adds p o cs f)

-- ---- operators and members

prefix-makes : (sign : PrefixSign) → makes (prefix_operator sign) ≡ false
prefix-makes Minus = refl
prefix-makes Not = refl

operator-makes : (sign : BinarySign) (v : Value) → makes (operator sign v) ≡ false
operator-makes signs.Equal (Labels t) = refl
operator-makes signs.NotEqual (Labels t) = refl
operator-makes s v = refl

pub prefixed-adds : (p : Place) (sign : PrefixSign) (v : Value) (f : Terms) → Adding of_value false f.graph (prefixed added p sign v f)
unfolding prefixed
prefixed-adds p Minus (Number n) f = adds-none f.graph
prefixed-adds p sign v f = alike of_value _ _ f.graph _ (prefix-makes sign) (applied-adds p (prefix_operator sign) (object_of (prefix_operator sign) v) f)

pub combined-adds : (p : Place) (sign : BinarySign) (v w : Value) (f : Terms) → Adding of_value false f.graph (combined added p sign v w f)
unfolding combined
combined-adds p sign v w f = alike of_value _ _ f.graph _ (operator-makes sign v) (applied-adds p (operator sign v) (operands_of (operator sign v) v w) f)

pub method-adds : (p : Place) (v : Value) (ws : List Written) (f : Terms) (o : Operation) → Adding of_value (makes o) f.graph (method_of added p v ws f o)
method-adds p v ws f o = either-ok _ (without_parentheses o) _ _ (λ q. tt) (λ q. called-adds p o (object_of o v) ws f)

told-adds : (m : Option Value) (p : Place) (v : Value) (ws : List Written) (f : Terms) (o : Operation) → Adding of_value (makes o) f.graph (told_of added m p v ws f o)
told-adds None p v ws f o = method-adds p v ws f o
told-adds (Some x) p v ws f o =
    then-adds of_value of_value false (makes o) f.graph (kept_where added p v x f) _ (method-adds p v (written None x ∷ []) f op.Where) (λ r. method-adds p r.value (without_mask ws) r.terms o)

pub greatest-adds : (p : Place) (v : Value) (x : Found Value) → Adding of_value false x.terms.graph (greatest_where added p v x.value x.terms)
greatest-adds p v x =
    then-adds of_value of_value false false x.terms.graph (kept_where added p v x.value x.terms) _ (method-adds p v (written None x.value ∷ []) x.terms op.Where)
    (λ r. method-adds p r.value [] r.terms (op.Summarize summary.Greatest))

asset-adds : (p : Place) (v : Value) (ws : List Written) (f : Terms) → Adding of_value false f.graph (one_asset added p v ws f)
asset-adds p v (w ∷ []) f =
    then-adds of_value of_value false false f.graph (called added p op.StaticSids [] (w ∷ []) f) _ (called-adds p op.StaticSids [] (w ∷ []) f) (λ x. greatest-adds p v x)
asset-adds p v ws f = tt

-- ---- names

abbrev pub number_name : List ℕ
number_name = codes "number"

-- the row of a name, of rows that all pass a test
abbrev RowOf : (Named → Bool) → List ℕ → Operation → Type 0
RowOf test n o = (r : Named) × (test r ≡ true) × (bytes_eq n r.name ≡ true) × (r.operation ≡ o)

row-found : (test : Named → Bool) (rows : List Named) (v : ℕ) (n : List ℕ) (o : Operation) → list_all test rows ≡ true → operation_in rows v n ≡ Some o → RowOf test n o
unfolding operation_in
row-found test [] v n o a h = absurd (let no : None ≡ Some o = h in cc)
row-found test (r ∷ rs) v n o a h = here (is_word r.since r.name v n) refl h (λ k. row-found test rs v n o (and_parts (test r) (list_all test rs) a).1 k)
  where
    here : (b : Bool) → is_word r.since r.name v n ≡ b → operation_in (r ∷ rs) v n ≡ Some o → (operation_in rs v n ≡ Some o → RowOf test n o) → RowOf test n o
    here true e k more = (r, (and_parts (test r) (list_all test rs) a).0, (and_parts (nat_le r.since v) (bytes_eq n r.name) e).1, (let s : Some r.operation ≡ Some o = sym (rw e refl) ∙ k in cc))
    here false e k more = more (sym (rw e refl) ∙ k)

as-named : (n m : List ℕ) → bytes_eq n m ≡ true → n ≡ m
as-named n m e = (bytes_eq-Decides n m).0 e

not-makes : (a : Bool) → not a ≡ true → a ≡ false
not-makes false e = refl
not-makes true e = absurd (let no : false ≡ true = e in cc)

member-makes : (v : ℕ) (n : List ℕ) (o : Operation) → member_named v n ≡ Some o → makes o ≡ false
unfolding member_named
member-makes v n o h = let r = row-found (λ q. not (makes q.operation)) member_table v n o refl h in ap makes (sym r.3) ∙ not-makes (makes r.0.operation) r.1

-- the function `number` is named so, and no other
abbrev both : Bool → Bool → Bool
both true b = b
both false b = not b

both-same : (a b : Bool) → both a b ≡ true → b ≡ a
both-same true b e = e
both-same false b e = not-makes b e

window-name : (k : WindowKind) → bytes_eq (row_of k).name number_name ≡ false
window-name window.Latest = refl
window-name k = refl

window-found : (ks : List WindowKind) (n : List ℕ) (k : WindowKind) → find (is_named n) ks ≡ Some k → is_named n k ≡ true
window-found [] n k h = absurd (let no : None ≡ Some k = h in cc)
window-found (j ∷ js) n k h = here (is_named n j) refl h (λ q. window-found js n k q)
  where
    here : (b : Bool) → is_named n j ≡ b → cond b (Some j) (find (is_named n) js) ≡ Some k → (find (is_named n) js ≡ Some k → is_named n k ≡ true) → is_named n k ≡ true
    here true e q more = let is : j ≡ k = (let s : Some j ≡ Some k = q in cc) in sym (ap (is_named n) is) ∙ e
    here false e q more = more q

window-named : (v : ℕ) (n : List ℕ) (k : WindowKind) → formula_named v n ≡ Some k → bytes_eq n number_name ≡ false
unfolding formula_named is_named
window-named v n k h = ap (λ m. bytes_eq m number_name) (as-named n (row_of k).name (window-found (formulas_of v) n k h)) ∙ window-name k

function-makes : (v : ℕ) (n : List ℕ) (o : Operation) → function_named v n ≡ Some o → makes o ≡ bytes_eq n number_name
unfolding function_named
function-makes v n o h = here (formula_named v n) refl h
  where
    here : (w : Option WindowKind) → formula_named v n ≡ w → first_function w v n ≡ Some o → makes o ≡ bytes_eq n number_name
    here (Some k) e q = let is : op.Window k (nat_le 4 v) ≡ o = (let s : Some (op.Window k (nat_le 4 v)) ≡ Some o = q in cc) in sym (ap makes is) ∙ sym (window-named v n k e)
    here None e q =
        let r = row-found (λ x. both (bytes_eq x.name number_name) (makes x.operation)) function_table v n o refl q in
        sym (ap makes r.3) ∙ both-same (bytes_eq r.0.name number_name) (makes r.0.operation) r.1 ∙ sym (ap (λ m. bytes_eq m number_name) (as-named n r.0.name r.2))

-- a name, and what it stands for is applied
pub function-adds : (v : ℕ) (p : Place) (n : List ℕ) (ws : List Written) (f : Terms) → Adding of_value (bytes_eq n number_name) f.graph (function_called added v p n ws f)
function-adds v p n ws f = found-ok _ _ p (function_named v n) _ (λ o e. alike of_value _ _ f.graph _ (function-makes v n o e) (called-adds p o [] ws f))

pub member-adds : (v : ℕ) (p : Place) (x : Value) (n : List ℕ) (f : Terms) → Adding of_value false f.graph (member_named_of added v p x n f)
member-adds v p x n f =
    found-ok _ _ p (member_named v n) _ (λ o e. alike of_value _ _ f.graph _ (member-makes v n o e) (either-ok _ (without_parentheses o) _ _ (λ q. applied-adds p o (object_of o x) f) (λ q. tt)))

-- ---- the age of a number, which stands in the graph

each-more : (bs : List Bound) (b : Bound) → each takes bs ≡ false → each takes (bs ++ b ∷ []) ≡ false
each-more [] b e = absurd (let no : true ≡ false = e in cc)
each-more (x ∷ xs) b e = here (takes x.parameter x.value) e (each-more xs b)
  where
    here : (t : Bool) → (t && each takes xs) ≡ false → (each takes xs ≡ false → each takes (xs ++ b ∷ []) ≡ false) → (t && each takes (xs ++ b ∷ [])) ≡ false
    here true e more = more e
    here false e more = refl

form-refused : (o : Operation) (n : Bool) (bs : List Bound) (ws : List Written) (r : List Bound) → form o n bs ws ≡ Some r → each takes bs ≡ false → each takes r ≡ false
unfolding form
form-refused o n bs [] r h e = here (has_all o bs) h
  where
    here : (b : Bool) → (if b then Some bs else None) ≡ Some r → each takes r ≡ false
    here true h = let same : bs ≡ r = cc in rw (← same) e
    here false h = absurd (cc)
form-refused o n bs (w ∷ ws) r h e =
    let q = bind-some (parameter_of o n bs w.name) (λ p. form o (n || is_some w.name) (bs ++ bound p w.value ∷ []) ws) r h in
    form-refused o (n || is_some w.name) (bs ++ bound q.0 w.value ∷ []) ws r q.2 (each-more bs (bound q.0 w.value) e)

called-refused : (P : Found Value → Type 0) (p : Place) (o : Operation) (bs : List Bound) (ws : List Written) (f : Terms) → each takes bs ≡ false → IfOk (called added p o bs ws f) P
unfolding called applied broken
called-refused P p o bs ws f e = found-ok _ _ p (form o false bs ws) _ (λ cs h. unless-ok _ (broken cs) p _ (λ b. absurd (let no : Some WrongKind ≡ None = rw (form-refused o false bs ws cs h e) at b in cc)))

aged-of : (p : Place) (o : Option (List ℕ)) (ws : List Written) (f : Terms) → ((n : List ℕ) → o ≡ Some n → speaks f.graph ≡ true)
    → Adding of_value false f.graph (called added p op.Age (bound parameter.Name (name_or_none o) ∷ []) ws f)
unfolding takes
aged-of p (Some n) ws f h =
    let same : (speaks f.graph || true) ≡ (speaks f.graph || false) = rw (h n refl) refl in
    IfOk-weaker (called added p op.Age (bound parameter.Name (Text n) ∷ []) ws f) _ _ (λ x e. (e.0, e.1 ∙ same)) (called-adds p op.Age (bound parameter.Name (Text n) ∷ []) ws f)
aged-of p None ws f h = called-refused _ p op.Age (bound parameter.Name (Number (pos 0)) ∷ []) ws f refl

name-beside : (names : List (List ℕ)) (k : Kind) (n : List ℕ) → name_of_kind names k ≡ Some n → is_beside k ≡ true
name-beside names (kind.Number f k) n h = refl
name-beside names k n h = absurd (let no : None ≡ Some n = h in cc)

aged-adds : (p : Place) (v : Value) (ws : List Written) (f : Terms) → Adding of_value false f.graph (aged added p v ws f)
aged-adds p (Factor t safe) ws f =
    aged-of p (option_and_then (λ n. name_of_kind f.names n.kind) (slice_get f.graph t)) ws f
    (λ n e. (let w = bind-some (slice_get f.graph t) (λ m. name_of_kind f.names m.kind) n e in any-at f.graph t w.0 w.1 (name-beside f.names w.0.kind n w.2)))
aged-adds p v ws f = aged-of p None ws f (λ n e. absurd (let no : None ≡ Some n = e in cc))

pub named-adds : (v : ℕ) (p : Place) (x : Value) (m : List ℕ) (ws : List Written) (f : Terms) → Adding of_value false f.graph (method_named_of added v p x m ws f)
named-adds v p x m ws f =
    either-ok _ (names_one_asset v m) _ _ (λ e. asset-adds p x ws f)
    (λ e. either-ok _ (names_age v m) _ _ (λ a. aged-adds p x ws f)
    (λ a. found-ok _ _ p (member_named v m) _ (λ o h. alike of_value _ _ f.graph _ (member-makes v m o h) (told-adds (mask_of o ws) p x ws f o))))

-- ---- expressions

abbrev pub asks : List Call → Bool
asks cs = list_any is_number cs

asks-both : (cs ds : List Call) → (asks cs || asks ds) ≡ asks (cs ++ ds)
asks-both cs ds = sym (list_any-append is_number cs ds)

mutual
  unfolding worth args_worth calls calls_among

  pub worth-adds : (v : ℕ) (ds : List Definition) (e : Tree) (f : Terms) → Adding of_value (asks (calls e)) f.graph (worth added v ds e f)
  worth-adds v ds (number p n) f = adds-none f.graph
  worth-adds v ds (text p x) f = adds-none f.graph
  worth-adds v ds (name p n) f = found-ok _ _ p (value_named ds n) (λ x. Ok (found x f)) (λ x e. adds-none f.graph)
  worth-adds v ds (call p n ps) f =
      alike of_value _ _ f.graph _ (or-turned (asks (calls_among ps)) (bytes_eq n number_name))
      (then-adds of_written of_value (asks (calls_among ps)) (bytes_eq n number_name) f.graph (args_worth added v ds [] ps f) _ (args-add v ds [] ps f) (λ r. function-adds v p n r.value r.terms))
  worth-adds v ds (prefix p sign e) f =
      alike of_value _ _ f.graph _ (sym (or-none _)) (then-adds of_value of_value (asks (calls e)) false f.graph (worth added v ds e f) _ (worth-adds v ds e f) (λ r. prefixed-adds p sign r.value r.terms))
  worth-adds v ds (binary p sign a b) f =
      alike of_value _ _ f.graph _ (ap (λ c. asks (calls a) || c) (sym (or-none (asks (calls b)))) ∙ asks-both (calls a) (calls b))
      (then-adds of_value of_value (asks (calls a)) (asks (calls b) || false) f.graph (worth added v ds a f) _ (worth-adds v ds a f) (λ l.
      then-adds of_value of_value (asks (calls b)) false l.terms.graph (worth added v ds b l.terms) _ (worth-adds v ds b l.terms) (λ r. combined-adds p sign l.value r.value r.terms)))
  worth-adds v ds (member p e m) f =
      alike of_value _ _ f.graph _ (sym (or-none _)) (then-adds of_value of_value (asks (calls e)) false f.graph (worth added v ds e f) _ (worth-adds v ds e f) (λ r. member-adds v p r.value m r.terms))
  worth-adds v ds (method p e m ps) f =
      alike of_value _ _ f.graph _ (ap (λ c. asks (calls e) || c) (sym (or-none (asks (calls_among ps)))) ∙ asks-both (calls e) (calls_among ps))
      (then-adds of_value of_value (asks (calls e)) (asks (calls_among ps) || false) f.graph (worth added v ds e f) _ (worth-adds v ds e f) (λ r.
      then-adds of_written of_value (asks (calls_among ps)) false r.terms.graph (args_worth added v ds [] ps r.terms) _ (args-add v ds [] ps r.terms) (λ q. named-adds v p r.value m q.value q.terms)))

  pub args-add : (v : ℕ) (ds : List Definition) (ws : List Written) (ps : Args) (f : Terms) → Adding of_written (asks (calls_among ps)) f.graph (args_worth added v ds ws ps f)
  args-add v ds ws no_args f = adds-none f.graph
  args-add v ds ws (arg n e ps) f =
      alike of_written _ _ f.graph _ (asks-both (calls e) (calls_among ps))
      (then-adds of_value of_written (asks (calls e)) (asks (calls_among ps)) f.graph (worth added v ds e f) _ (worth-adds v ds e f) (λ r. args-add v ds (ws ++ written n r.value ∷ []) ps r.terms))

-- ---- statements

stored-adds : (p : Place) (r : Found Value) → Adding of_value false r.terms.graph (stored added p r)
unfolding stored
stored-adds p r =
    let x = factor-adds r.terms.graph r.value in
    require-ok _ (is_storable r.value) _ p _ (λ e.
    subst (λ o. Adding of_value false r.terms.graph (or_fault TooManyTerms p o >>= λ q. Ok (found q.0 (terms q.1 r.terms.names)))) (sym x.1) x.2)

pub let-adds : (v : ℕ) (j : Judged) (p : Place) (n : List ℕ) (r : Found Value) → Adding of_judged false r.terms.graph (let_judged v j p n r)
unfolding let_judged
let-adds v j p n r = require-ok _ (not (is_taken v j.definitions n)) _ p _ (λ e. adds-none r.terms.graph)

pub column-adds : (j : Judged) (p : Place) (n : List ℕ) (r : Found Value) → Adding of_judged false r.terms.graph (column_judged j p n r)
unfolding column_judged
column-adds j p n r = require-ok _ (not (has_column j.columns n)) _ p _ (λ a. require-ok _ (nat_lt (length j.columns) most_columns) _ p _ (λ b. adds-none r.terms.graph))

screen-adds : (j : Judged) (p : Place) (r : Found Value) → Adding of_judged false r.terms.graph (screen_judged j p r)
unfolding screen_judged
screen-adds j p r = require-ok _ (is_term_filter r.value) _ p _ (λ a. require-ok _ (not (is_some j.screen)) _ p _ (λ b. adds-none r.terms.graph))

pub head-adds : (v : ℕ) (j : Judged) (h : Head) (r : Found Value) → Adding of_judged false r.terms.graph (head_judged added v j h r)
head-adds v j (LetHead p n) r = then-adds of_value of_judged false false r.terms.graph (stored added p r) _ (stored-adds p r) (λ x. let-adds v j p n x)
head-adds v j (ColumnHead p n) r = then-adds of_value of_judged false false r.terms.graph (stored added p r) _ (stored-adds p r) (λ x. column-adds j p n x)
head-adds v j (ScreenHead p) r = screen-adds j p r

statement-adds : (v : ℕ) (j : Judged) (s : Statement) → Adding of_judged (asks (calls s.tree)) j.terms.graph (statement_judged added v j s)
unfolding statement_judged
statement-adds v j s =
    alike of_judged _ _ j.terms.graph _ (sym (or-none _))
    (then-adds of_value of_judged (asks (calls s.tree)) false j.terms.graph (worth added v j.definitions s.tree j.terms) _ (worth-adds v j.definitions s.tree j.terms) (λ r. head-adds v j s.head r))

pub statements-add : (v : ℕ) (j : Judged) (ss : List Statement) → Adding of_judged (asks (statement_calls ss)) j.terms.graph (statements_judged added v j ss)
unfolding statements_judged statement_calls
statements-add v j [] = adds-none j.terms.graph
statements-add v j (s ∷ ss) =
    alike of_judged _ _ j.terms.graph _ (asks-both (calls s.tree) (statement_calls ss))
    (then-adds of_judged of_judged (asks (calls s.tree)) (asks (statement_calls ss)) j.terms.graph (statement_judged added v j s) _ (statement-adds v j s) (λ k. statements-add v k ss))

pub ended-adds : (p : Place) (j : Judged) → Adding of_pipeline false j.terms.graph (ended p j)
ended-adds p j = require-ok _ (nat_le 1 (length j.columns)) _ p _ (λ e. adds-none j.terms.graph)

-- the script has a number beside bars where it asks for one
pub script-speaks : (s : Parsed) → IfOk (typed_by added s) (λ p. speaks p.graph ≡ (asks (statement_calls s.statements) || false))
script-speaks s =
    IfOk-weaker (typed_by added s) _ _ (λ p e. e.1)
    (then-adds of_judged of_pipeline (asks (statement_calls s.statements)) false [] (statements_judged added s.version nothing s.statements) _ (statements-add s.version nothing s.statements) (λ j. ended-adds s.end j))
