-- A typed script is its trees, numbered.
use Rattle.std.proofs.Common.{◌≡◌, ℕ, ◌<◌, ◌≤◌, nat_le, nat_lt, Bool, true, false, ◌||◌, ◌⊎◌, List, [], ◌∷◌, ◌++◌, length, map, Option, Some, None, option_map, Result, Ok, Err, refl, sym, ap, subst, ◌∙◌, arith, inl, inr, bytes_eq}
use Rattle.std.specs.Prelude.{is_some, not}
use Rattle.std.proofs.lemmas.List.{length-map, map-append}
use Rattle.pl_spec.specs.Limits.{most_columns}
use Rattle.pl_spec.proofs.Each.{each_both, each_more, map_each}
use Rattle.pl_pipeline.specs.Term.{Graph, term_at}
use Rattle.pl_pipeline.specs.Table.{NamedColumn, Pipeline}
use Rattle.pl_grammar.specs.declared.Place.{Place}
use Rattle.pl_grammar.specs.Script.{Head, LetHead, ColumnHead, ScreenHead, Statement}
use Rattle.pl_terms.specs.Nodes.{interned}
use Rattle.pl_syntax.specs.Spells.{Parsed}
use Rattle.pl_check.specs.declared.fault.CheckFault.{CheckFault}
use Rattle.pl_check.specs.declared.fault.CheckFault.TheVariants.{TooManyTerms}
use Rattle.pl_check.specs.Faults.{Broken, ◌>>=◌, or_fault}
use Rattle.pl_check.specs.Values.{Value, Bars, Factor, Filter, Number, Text}
use Rattle.pl_check.specs.Results.{term_in}
use Rattle.pl_check.specs.Operations.{function_named}
use Rattle.pl_check.specs.Typed.{Terms, Found, found, Definition, Judged, nothing, bar_column, defined, is_storable, is_term_filter, term_of, require, is_taken, has_column, factor_value, stored, let_judged, column_judged, screen_judged, head_judged, statement_judged, statements_judged, worth, pipeline_of, ended, typed_by, typed}
use Rattle.pl_check.specs.Trees.{added, ScriptTrees, tree_column, trees_of, script_trees}
use Rattle.pl_check.specs.Numbering.{HasMany, AreNumbered, TypedAreTrees, FaultsAreTrees, TypedUnlessMany}
use Rattle.pl_check.specs.Standing.{ColumnsAreInGraph}
use Rattle.pl_check.proofs.Growing.{terms}
use Rattle.pl_check.proofs.Stated.{columns-kept}
use Rattle.pl_check.proofs.Renumbered.{renumbered, storable-moved, filter-moved}
use Rattle.pl_check.proofs.Rooted.{IsIn}
use Rattle.pl_check.proofs.Extended.{of_value, of_judged, of_pipeline, let-adds, column-adds, head-adds, statements-add, ended-adds}
use Rattle.pl_check.proofs.Counted.{Same, Further, MeansValue, means-behind, Puts, named, factor-puts}
use Rattle.pl_check.proofs.Followed.{Agrees, then-agrees, weaker, moved_definition, DefinedIn, defined-later, defined-moved, worth-agrees}

-- ---- what the statements so far say

abbrev NumberIn : Graph → Option ℕ → Type 0
NumberIn g o = (k : ℕ) → o ≡ Some k → k < length g

abbrev moved_column : (ℕ → ℕ) → NamedColumn → NamedColumn
moved_column to c = record { name = c.name; term = to c.term }

-- the same of a script and where no term is shared, but for the numbers of terms
record SameJudged (j k : Judged) : Type 0 where
  to : ℕ → ℕ
  same : Same j.terms k.terms to
  defined_in : DefinedIn k.terms.graph k.definitions
  definitions : j.definitions ≡ map (moved_definition to) k.definitions
  inside : ColumnsAreInGraph k.terms.graph k.columns
  columns : j.columns ≡ map (moved_column to) k.columns
  there : NumberIn k.terms.graph k.screen
  screen : j.screen ≡ option_map to k.screen

columns-later : (f g : Graph) (to more : ℕ → ℕ) (cs : List NamedColumn) → Further f g to more → ColumnsAreInGraph f cs → map (moved_column more) cs ≡ map (moved_column to) cs
columns-later f g to more cs h i =
    map_each (moved_column more) (moved_column to) cs (each_more _ _ cs (λ (c : NamedColumn) (l : c.term < length f). ap (λ t. record { name = c.name; term = t }) (h.kept c.term l)) i)

number-later : (f g : Graph) (to more : ℕ → ℕ) (o : Option ℕ) → Further f g to more → NumberIn f o → NumberIn g o × (option_map more o ≡ option_map to o)
number-later f g to more None h i = (λ k e. absurd (let no : None ≡ Some k = e in cc), refl)
number-later f g to more (Some t) h i =
    (λ k e. (let a : k < length f = i k e in let b : length f ≤ length g = h.longer in omega arith), ap Some (h.kept t (i t refl)))

-- ---- the value of a statement

-- a value that is a term
abbrev Stored : Graph → (ℕ → ℕ) → Found Value → Found Value → Type 0
Stored f to x y = MeansValue f to x y × (term_in y.value ≡ Some (term_of y.value))

require-agrees : {A B : Type 0} (F : B → Graph) (R : A → B → Type 0) (k : CheckFault) (p : Place) (b c : Bool) (r : Result A Broken) (q : Result B Broken) → b ≡ c → (c ≡ true → Agrees F R r q) → Agrees F R (require b k p r) (require c k p q)
require-agrees F R k p b true r q e h = subst (λ z. Agrees F R (require z k p r) q) (sym e) (h refl)
require-agrees F R k p b false r q e h = subst (λ z. Agrees F R (require z k p r) (require false k p q)) (sym e) (inr refl)

stored-term : (g : Graph) (v : Value) (y : Value × Graph) → is_storable v ≡ true → factor_value added g v ≡ Some y → term_in y.0 ≡ Some (term_of y.0)
unfolding factor_value
stored-term g (Bars c) y h e = absurd (let no : false ≡ true = h in cc)
stored-term g (Text t) y h e = absurd (let no : false ≡ true = h in cc)
stored-term g (Number n) y h e = let q : Factor (length g) true ≡ y.0 = (let z : Some (Factor (length g) true, _) ≡ Some y = e in cc) in subst (λ x. term_in x ≡ Some (term_of x)) q refl
stored-term g v y h e = let q : v ≡ y.0 = (let z : Some (v, g) ≡ Some y = e in cc) in subst (λ x. term_in x ≡ Some (term_of x)) q refl

stored-agrees : (p : Place) (v : Value) (s f : Terms) (to : ℕ → ℕ) → Same s f to → IsIn f.graph v → Agrees of_value (Stored f.graph to) (stored interned p (found (renumbered to v) s)) (stored added p (found v f))
unfolding stored
stored-agrees p v s f to w i =
    require-agrees of_value (Stored f.graph to) _ p (is_storable (renumbered to v)) (is_storable v) _ _ (storable-moved to v)
    (λ e. here e (factor_value interned s.graph (renumbered to v)) (factor_value added f.graph v) refl (factor-puts s f to v w i))
  where
    here : is_storable v ≡ true → (o q : Option (Value × Graph)) → factor_value added f.graph v ≡ q → Puts (MeansValue f.graph to) (named s.names o) (named f.names q)
        → Agrees of_value (Stored f.graph to) (or_fault TooManyTerms p o >>= λ r. Ok (found r.0 (terms r.1 s.names))) (or_fault TooManyTerms p q >>= λ r. Ok (found r.0 (terms r.1 f.names)))
    here e o None a h = absurd h
    here e None (Some y) a h = inl (refl, h)
    here e (Some x) (Some y) a h = (_, refl, (h, stored-term f.graph v y e a))

stored-after : (f : Graph) (to : ℕ → ℕ) (r m : Found Value) (p : Place) → MeansValue f to r m → Agrees of_value (Stored f to) (stored interned p r) (stored added p m)
stored-after f to r m p h =
    subst (λ x. Agrees of_value (Stored f to) (stored interned p (found x r.terms)) (stored added p m)) (sym h.is)
    (weaker of_value (Stored m.terms.graph h.to_after) (Stored f to) (stored interned p (found (renumbered h.to_after m.value) r.terms)) (stored added p m)
    (λ x y k. (means-behind IsIn renumbered f m.terms.graph to h.to_after x y h.further k.0, k.1))
    (stored-agrees p m.value r.terms m.terms h.to_after h.same h.inside))

-- ---- one statement

taken-same : (v : ℕ) (to : ℕ → ℕ) (ds es : List Definition) (n : List ℕ) → es ≡ map (moved_definition to) ds → is_taken v es n ≡ is_taken v ds n
taken-same v to ds es n e =
    ap (λ xs. is_taken v xs n) e ∙ ap (λ o. is_some (bar_column n) || is_some (function_named v n) || is_some o) (defined-moved to ds n)
    ∙ ap (λ b. is_some (bar_column n) || is_some (function_named v n) || b) (here (defined ds n))
  where
    here : (o : Option Value) → is_some (option_map (renumbered to) o) ≡ is_some o
    here None = refl
    here (Some x) = refl

let-agrees : (v : ℕ) (j k : Judged) (p : Place) (n : List ℕ) (r m : Found Value) (w : SameJudged j k) → MeansValue k.terms.graph w.to r m → Agrees of_judged SameJudged (let_judged v j p n r) (let_judged v k p n m)
unfolding let_judged
let-agrees v j k p n r m w h =
    require-agrees of_judged SameJudged _ p (not (is_taken v j.definitions n)) (not (is_taken v k.definitions n)) _ _ (ap not (taken-same v w.to k.definitions j.definitions n w.definitions))
    (λ e. (
      _,
      refl,
      record {
        to = h.to_after;
        same = h.same;
        defined_in = each_both _ k.definitions (record { name = n; value = m.value } ∷ []) ds.0 (h.inside, tt);
        definitions =
            ap (λ xs. xs ++ record { name = n; value = r.value } ∷ []) (w.definitions ∙ sym ds.1) ∙ ap (λ x. map (moved_definition h.to_after) k.definitions ++ record { name = n; value = x } ∷ []) h.is
            ∙ sym (map-append (moved_definition h.to_after) k.definitions (record { name = n; value = m.value } ∷ []));
        inside = columns-kept k.terms.graph m.terms.graph k.columns h.further.longer w.inside;
        columns = w.columns ∙ sym (columns-later k.terms.graph m.terms.graph w.to h.to_after k.columns h.further w.inside);
        there = o.0;
        screen = w.screen ∙ sym o.1;
      },
    ))
  where
    ds : DefinedIn m.terms.graph k.definitions × (map (moved_definition h.to_after) k.definitions ≡ map (moved_definition w.to) k.definitions)
    ds = defined-later k.terms.graph m.terms.graph w.to h.to_after k.definitions h.further w.defined_in

    o : NumberIn m.terms.graph k.screen × (option_map h.to_after k.screen ≡ option_map w.to k.screen)
    o = number-later k.terms.graph m.terms.graph w.to h.to_after k.screen h.further w.there

has-same : (to : ℕ → ℕ) (cs : List NamedColumn) (n : List ℕ) → has_column (map (moved_column to) cs) n ≡ has_column cs n
has-same to [] n = refl
has-same to (c ∷ cs) n = ap (λ b. bytes_eq n c.name || b) (has-same to cs n)

-- the number of a term
term-moved : (to : ℕ → ℕ) (v : Value) → term_in v ≡ Some (term_of v) → term_of (renumbered to v) ≡ to (term_of v)
term-moved to (Bars c) h = absurd (let no : None ≡ Some 0 = h in cc)
term-moved to (Number n) h = absurd (let no : None ≡ Some 0 = h in cc)
term-moved to (Text t) h = absurd (let no : None ≡ Some 0 = h in cc)
term-moved to v h = refl

column-agrees : (j k : Judged) (p : Place) (n : List ℕ) (r m : Found Value) (w : SameJudged j k) → Stored k.terms.graph w.to r m → Agrees of_judged SameJudged (column_judged j p n r) (column_judged k p n m)
unfolding column_judged
column-agrees j k p n r m w (h, t) =
    require-agrees of_judged SameJudged _ p (not (has_column j.columns n)) (not (has_column k.columns n)) _ _ (ap not (ap (λ cs. has_column cs n) w.columns ∙ has-same w.to k.columns n))
    (λ e. require-agrees of_judged SameJudged _ p (nat_lt (length j.columns) most_columns) (nat_lt (length k.columns) most_columns) _ _
    (ap (λ x. nat_lt x most_columns) (ap length w.columns ∙ length-map k.columns (moved_column w.to)))
    (λ q. (
      _,
      refl,
      record {
        to = h.to_after;
        same = h.same;
        defined_in = ds.0;
        definitions = w.definitions ∙ sym ds.1;
        inside = each_both _ k.columns (record { name = n; term = term_of m.value } ∷ []) (columns-kept k.terms.graph m.terms.graph k.columns h.further.longer w.inside) (h.inside (term_of m.value) t, tt);
        columns =
            ap (λ cs. cs ++ record { name = n; term = term_of r.value } ∷ []) (w.columns ∙ sym (columns-later k.terms.graph m.terms.graph w.to h.to_after k.columns h.further w.inside))
            ∙ ap (λ x. map (moved_column h.to_after) k.columns ++ record { name = n; term = x } ∷ []) (ap term_of h.is ∙ term-moved h.to_after m.value t)
            ∙ sym (map-append (moved_column h.to_after) k.columns (record { name = n; term = term_of m.value } ∷ []));
        there = o.0;
        screen = w.screen ∙ sym o.1;
      },
    )))
  where
    ds : DefinedIn m.terms.graph k.definitions × (map (moved_definition h.to_after) k.definitions ≡ map (moved_definition w.to) k.definitions)
    ds = defined-later k.terms.graph m.terms.graph w.to h.to_after k.definitions h.further w.defined_in

    o : NumberIn m.terms.graph k.screen × (option_map h.to_after k.screen ≡ option_map w.to k.screen)
    o = number-later k.terms.graph m.terms.graph w.to h.to_after k.screen h.further w.there

filter-term : (v : Value) → is_term_filter v ≡ true → term_in v ≡ Some (term_of v)
filter-term (Filter t) h = refl
filter-term v h = absurd (let no : false ≡ true = h in cc)

some-same : (to : ℕ → ℕ) (o : Option ℕ) → is_some (option_map to o) ≡ is_some o
some-same to None = refl
some-same to (Some t) = refl

screen-agrees : (j k : Judged) (p : Place) (r m : Found Value) (w : SameJudged j k) → MeansValue k.terms.graph w.to r m → Agrees of_judged SameJudged (screen_judged j p r) (screen_judged k p m)
unfolding screen_judged
screen-agrees j k p r m w h =
    require-agrees of_judged SameJudged _ p (is_term_filter r.value) (is_term_filter m.value) _ _ (ap is_term_filter h.is ∙ filter-moved h.to_after m.value)
    (λ e. require-agrees of_judged SameJudged _ p (not (is_some j.screen)) (not (is_some k.screen)) _ _ (ap not (ap is_some w.screen ∙ some-same w.to k.screen))
    (λ q. (
      _,
      refl,
      record {
        to = h.to_after;
        same = h.same;
        defined_in = ds.0;
        definitions = w.definitions ∙ sym ds.1;
        inside = columns-kept k.terms.graph m.terms.graph k.columns h.further.longer w.inside;
        columns = w.columns ∙ sym (columns-later k.terms.graph m.terms.graph w.to h.to_after k.columns h.further w.inside);
        there = λ t x. h.inside t (filter-term m.value e ∙ x);
        screen = ap Some (ap term_of h.is ∙ term-moved h.to_after m.value (filter-term m.value e));
      },
    )))
  where
    ds : DefinedIn m.terms.graph k.definitions × (map (moved_definition h.to_after) k.definitions ≡ map (moved_definition w.to) k.definitions)
    ds = defined-later k.terms.graph m.terms.graph w.to h.to_after k.definitions h.further w.defined_in

head-agrees : (v : ℕ) (j k : Judged) (h : Head) (r m : Found Value) (w : SameJudged j k) → MeansValue k.terms.graph w.to r m → Agrees of_judged SameJudged (head_judged interned v j h r) (head_judged added v k h m)
head-agrees version j k (LetHead p n) r m w v =
    then-agrees of_value of_judged (Stored k.terms.graph w.to) SameJudged (stored interned p r) (stored added p m) _ _ (stored-after k.terms.graph w.to r m p v) (λ q x y. let-agrees version j k p n q x w y.0) (λ x. (_, let-adds version k p n x))
head-agrees version j k (ColumnHead p n) r m w v =
    then-agrees of_value of_judged (Stored k.terms.graph w.to) SameJudged (stored interned p r) (stored added p m) _ _ (stored-after k.terms.graph w.to r m p v) (λ q x y. column-agrees j k p n q x w y) (λ x. (_, column-adds k p n x))
head-agrees version j k (ScreenHead p) r m w v = screen-agrees j k p r m w v

-- ---- all statements

statement-agrees : (v : ℕ) (j k : Judged) (s : Statement) → SameJudged j k → Agrees of_judged SameJudged (statement_judged interned v j s) (statement_judged added v k s)
unfolding statement_judged
statement-agrees v j k s w =
    then-agrees of_value of_judged (MeansValue k.terms.graph w.to) SameJudged (worth interned v j.definitions s.tree j.terms) (worth added v k.definitions s.tree k.terms) _ _
    (worth-agrees v k.definitions j.definitions s.tree j.terms k.terms w.to w.same w.defined_in w.definitions)
    (λ r m h. head-agrees v j k s.head r m w h) (λ m. (_, head-adds v k s.head m))

statements-agree : (v : ℕ) (j k : Judged) (ss : List Statement) → SameJudged j k → Agrees of_judged SameJudged (statements_judged interned v j ss) (statements_judged added v k ss)
unfolding statements_judged
statements-agree v j k [] w = (k, refl, w)
statements-agree v j k (s ∷ ss) w =
    then-agrees of_judged of_judged SameJudged SameJudged (statement_judged interned v j s) (statement_judged added v k s) _ _ (statement-agrees v j k s w) (λ x y h. statements-agree v x y ss h) (λ y. (_, statements-add v y ss))

nothing-same : SameJudged nothing nothing
nothing-same = record {
  to = λ k. k;
  same = record {
    graph = record {
      few = λ k n e. absurd (let no : None ≡ Some n = e in cc);
      lower = λ k n e. absurd (let no : None ≡ Some n = e in cc);
      distinct = λ j k n e q. absurd (let no : None ≡ Some n = e in cc);
    };
    firsts = refl;
    names = refl;
    few = omega arith;
    trees = λ k l. refl;
    kinds = λ k n e. absurd (let no : None ≡ Some n = e in cc);
  };
  defined_in = tt;
  definitions = refl;
  inside = tt;
  columns = refl;
  there = λ k e. absurd (let no : None ≡ Some k = e in cc);
  screen = refl;
}

-- ---- the script

abbrev pub Numbered : Pipeline → Pipeline → Type 0
Numbered p q = AreNumbered (trees_of q) p

numbered : (j k : Judged) → SameJudged j k → Numbered (pipeline_of j) (pipeline_of k)
numbered j k w = record {
  terms = w.same.firsts;
  columns = ap (map (tree_column j.terms.graph)) w.columns ∙ all k.columns w.inside;
  screen = ap (option_map (term_at j.terms.graph)) w.screen ∙ one k.screen w.there;
  names = w.same.names;
  few = w.same.few;
}
  where
    all : (cs : List NamedColumn) → ColumnsAreInGraph k.terms.graph cs → map (tree_column j.terms.graph) (map (moved_column w.to) cs) ≡ map (tree_column k.terms.graph) cs
    all [] i = refl
    all (c ∷ cs) i =
        ap (λ t. record { name = c.name; tree = t } ∷ map (tree_column j.terms.graph) (map (moved_column w.to) cs)) (w.same.trees c.term i.0) ∙ ap (λ xs. tree_column k.terms.graph c ∷ xs) (all cs i.1)

    one : (o : Option ℕ) → NumberIn k.terms.graph o → option_map (term_at j.terms.graph) (option_map w.to o) ≡ option_map (term_at k.terms.graph) o
    one None i = refl
    one (Some t) i = ap Some (w.same.trees t (i t refl))

ended-agrees : (p : Place) (j k : Judged) → SameJudged j k → Agrees of_pipeline Numbered (ended p j) (ended p k)
ended-agrees p j k w =
    require-agrees of_pipeline Numbered _ p (nat_le 1 (length j.columns)) (nat_le 1 (length k.columns)) _ _ (ap (nat_le 1) (ap length w.columns ∙ length-map k.columns (moved_column w.to))) (λ e. (pipeline_of k, refl, numbered j k w))

script-agrees : (s : Parsed) → Agrees of_pipeline Numbered (typed s) (typed_by added s)
unfolding typed
script-agrees s =
    then-agrees of_judged of_pipeline SameJudged Numbered (statements_judged interned s.version nothing s.statements) (statements_judged added s.version nothing s.statements) _ _
    (statements-agree s.version nothing nothing s.statements nothing-same) (λ j k w. ended-agrees s.end j k w) (λ k. (_, ended-adds s.end k))

pub agrees-where : (s : Parsed) (r : Result Pipeline Broken) → typed s ≡ r → Agrees of_pipeline Numbered r (typed_by added s)
agrees-where s r e = subst (λ r. Agrees of_pipeline Numbered r (typed_by added s)) e (script-agrees s)

-- the trees of a pipeline, or its fault
abbrev without_numbers : Result Pipeline Broken → Result ScriptTrees Broken
without_numbers r = r >>= λ p. Ok (trees_of p)

pub typed-are-trees : TypedAreTrees
unfolding script_trees
typed-are-trees s p h = let a = agrees-where s (Ok p) h in (trees_of a.0, ap without_numbers a.1, a.2)

pub faults-are-trees : FaultsAreTrees
unfolding script_trees
faults-are-trees s b h = elim (agrees-where s (Err b) h) [ inl x ↦ inl x.0 | inr x ↦ inr (ap without_numbers x) ]

pub typed-unless-many : TypedUnlessMany
unfolding script_trees
typed-unless-many s t h = here (typed s) (typed_by added s) refl h (script-agrees s)
  where
    here : (r q : Result Pipeline Broken) → typed s ≡ r → without_numbers q ≡ Ok t → Agrees of_pipeline Numbered r q
        → ((p : Pipeline) × (typed s ≡ Ok p)) ⊎ ((b : Broken) × (typed s ≡ Err b) × (b.fault ≡ TooManyTerms) × HasMany t.trees)
    here (Ok p) q e k a = inl (p, e)
    here (Err b) (Ok z) e k (inl x) = let i : trees_of z ≡ t = (let n : Ok (trees_of z) ≡ Ok t = k in cc) in inr (b, e, x.0, subst (λ (y : ScriptTrees). HasMany y.trees) i x.1)
    here (Err b) (Ok z) e k (inr x) = absurd (let no : Ok z ≡ Err b = x in cc)
    here (Err b) (Err c) e k a = absurd (let no : Err c ≡ Ok t = k in cc)
