-- Rules, kinds, windows and sorts look at no number of a term: it may be another.
use Rattle.std.proofs.Common.{◌≡◌, ◌==◌, ℕ, length, Bool, true, false, not, ◌&&◌, ◌||◌, cond, List, [], ◌∷◌, ◌++◌, map, Option, Some, None, option_map, pos, refl, sym, ap, ◌∙◌}
use Rattle.std.specs.Prelude.{filter, is_some, option_and_then}
use Rattle.std.proofs.lemmas.List.{length-map, map-append}
use Rattle.pl_terms.specs.Windows.{row_of}
use Rattle.pl_terms.specs.Sorts.{sort_of, is_safe_kind, is_safe_over}
use Rattle.pl_pipeline.specs.Kind as kind
use Rattle.pl_pipeline.specs.Kind.{Kind}
use Rattle.pl_pipeline.specs.declared.WindowKind.TheVariants as window
use Rattle.pl_pipeline.specs.declared.Summary.TheVariants as summary
use Rattle.pl_grammar.specs.declared.BinarySign.{BinarySign}
use Rattle.pl_grammar.specs.declared.BinarySign.TheVariants as signs
use Rattle.pl_check.specs.declared.operation.Operation.{Operation}
use Rattle.pl_check.specs.declared.operation.Operation.TheVariants as op
use Rattle.pl_check.specs.declared.operation.Parameter.{Parameter}
use Rattle.pl_check.specs.declared.operation.Parameter.TheVariants as parameter
use Rattle.pl_check.specs.Parameters.{same_parameter, is_optional}
use Rattle.pl_check.specs.Values.{Value, Factor, Filter, Labels, Numbers, Bound, bound, is_safe, is_bars, number_in, text_in, given, read_or}
use Rattle.pl_check.specs.Operations.{parameters, operator}
use Rattle.pl_check.specs.Rules.{Written, place_at, named_in, is_given, unless_given, parameter_of, has_all, form, takes, number_given, is_within, is_window, is_safe_for, each, broken}
use Rattle.pl_check.specs.Results.{whole, text_given, values_given, with_sid, sorted_sids, with_name, kind_for, names_after, window_of, window_for, all_safe, has_no_bars, nests_over, nests_safe, like, sorted, is_window_safe, result_for}
use Rattle.pl_check.specs.Typed.{object_of, second_of, operands_of, is_storable, is_term_filter}
use Rattle.pl_check.specs.Typed as typed
use Rattle.pl_check.proofs.Lists.{given-cons, all-same, within-by}

-- a value whose term has another number
abbrev pub renumbered : (ℕ → ℕ) → Value → Value
renumbered to (Factor t s) = Factor (to t) s
renumbered to (Filter t) = Filter (to t)
renumbered to (Labels t) = Labels (to t)
renumbered to (Numbers t) = Numbers (to t)
renumbered to v = v

abbrev pub moved : (ℕ → ℕ) → Bound → Bound
moved to b = bound b.parameter (renumbered to b.value)

abbrev pub moved_written : (ℕ → ℕ) → Written → Written
moved_written to w = record { name = w.name; value = renumbered to w.value }

-- ---- one value

number-moved : (to : ℕ → ℕ) (v : Value) → number_in (renumbered to v) ≡ number_in v
number-moved to (Factor t s) = refl
number-moved to v = refl

text-moved : (to : ℕ → ℕ) (v : Value) → text_in (renumbered to v) ≡ text_in v
text-moved to (Factor t s) = refl
text-moved to v = refl

safe-moved : (to : ℕ → ℕ) (v : Value) → is_safe (renumbered to v) ≡ is_safe v
safe-moved to (Factor t s) = refl
safe-moved to v = refl

bars-moved : (to : ℕ → ℕ) (v : Value) → is_bars (renumbered to v) ≡ is_bars v
bars-moved to (Factor t s) = refl
bars-moved to v = refl

pub storable-moved : (to : ℕ → ℕ) (v : Value) → is_storable (renumbered to v) ≡ is_storable v
storable-moved to (Factor t s) = refl
storable-moved to v = refl

pub filter-moved : (to : ℕ → ℕ) (v : Value) → is_term_filter (renumbered to v) ≡ is_term_filter v
filter-moved to (Factor t s) = refl
filter-moved to v = refl

-- ---- the rules

-- what the four tests of a value say
abbrev Tests : Type 0
Tests = Bool × Bool × Bool × Bool

abbrev tests : List Bound → Parameter → Value → Tests
tests bs q v = (takes q v, is_within bs q v, is_window q v, is_safe_for q v)

tests-moved : (to : ℕ → ℕ) (bs : List Bound) (v : Value) (q : Parameter) → tests bs q (renumbered to v) ≡ tests bs q v
unfolding takes is_within is_window is_safe_for
tests-moved to bs (Factor t s) parameter.X = refl
tests-moved to bs v parameter.X = refl
tests-moved to bs v q = refl

-- ---- what a parameter is given

pub given-is : (b : Bound) (bs : List Bound) (p : Parameter) → given (b ∷ bs) p ≡ cond (same_parameter b.parameter p) (Some b.value) (given bs p)
given-is b bs p = given-cons b bs p (same_parameter b.parameter p) refl

pub given-moved : (to : ℕ → ℕ) (bs : List Bound) (p : Parameter) → given (map (moved to) bs) p ≡ option_map (renumbered to) (given bs p)
unfolding given
given-moved to [] p = refl
given-moved to (b ∷ bs) p =
    given-is (moved to b) (map (moved to) bs) p ∙ here (same_parameter b.parameter p) (given-moved to bs p) ∙ sym (ap (option_map (renumbered to)) (given-is b bs p))
  where
    here : (a : Bool) → given (map (moved to) bs) p ≡ option_map (renumbered to) (given bs p) → cond a (Some (renumbered to b.value)) (given (map (moved to) bs) p) ≡ option_map (renumbered to) (cond a (Some b.value) (given bs p))
    here true k = refl
    here false k = k

-- what is read off it
read-moved : (to : ℕ → ℕ) {A : Type 0} (none : A) (read : Value → A) → ((v : Value) → read (renumbered to v) ≡ read v) → (bs : List Bound) (p : Parameter) → read_or none read (given (map (moved to) bs) p) ≡ read_or none read (given bs p)
read-moved to none read h bs p = ap (read_or none read) (given-moved to bs p) ∙ here (given bs p)
  where
    here : (o : Option Value) → read_or none read (option_map (renumbered to) o) ≡ read_or none read o
    here None = refl
    here (Some v) = h v

number-given : (to : ℕ → ℕ) (bs : List Bound) (p : Parameter) → number_given (map (moved to) bs) p ≡ number_given bs p
number-given to bs p = read-moved to (pos 0) number_in (number-moved to) bs p

text-given : (to : ℕ → ℕ) (bs : List Bound) (p : Parameter) → text_given (map (moved to) bs) p ≡ text_given bs p
text-given to bs p = read-moved to [] text_in (text-moved to) bs p

values-given : (to : ℕ → ℕ) (bs : List Bound) (p : Parameter) → values_given (map (moved to) bs) p ≡ map (renumbered to) (values_given bs p)
values-given to [] p = refl
values-given to (b ∷ bs) p = here (same_parameter b.parameter p) (values-given to bs p)
  where
    here : (a : Bool) → values_given (map (moved to) bs) p ≡ map (renumbered to) (values_given bs p)
        → map (λ x. x.value) (cond a (moved to b ∷ filter (λ x. same_parameter x.parameter p) (map (moved to) bs)) (filter (λ x. same_parameter x.parameter p) (map (moved to) bs)))
        ≡ map (renumbered to) (map (λ x. x.value) (cond a (b ∷ filter (λ x. same_parameter x.parameter p) bs) (filter (λ x. same_parameter x.parameter p) bs)))
    here true k = ap (λ z. renumbered to b.value ∷ z) k
    here false k = k

sids-moved : (to : ℕ → ℕ) (vs : List Value) → sorted_sids (map (renumbered to) vs) ≡ sorted_sids vs
unfolding sorted_sids
sids-moved to [] = refl
sids-moved to (v ∷ vs) = ap (λ n. with_sid (whole n) (sorted_sids (map (renumbered to) vs))) (number-moved to v) ∙ ap (with_sid (whole (number_in v))) (sids-moved to vs)

texts-moved : (to : ℕ → ℕ) (vs : List Value) → map text_in (map (renumbered to) vs) ≡ map text_in vs
texts-moved to [] = refl
texts-moved to (v ∷ vs) = ap (λ t. t ∷ map text_in (map (renumbered to) vs)) (text-moved to v) ∙ ap (λ z. text_in v ∷ z) (texts-moved to vs)

-- ---- the first broken rule

each-moved : (to : ℕ → ℕ) (f g : Parameter → Value → Bool) → ((v : Value) (q : Parameter) → f q (renumbered to v) ≡ g q v) → (bs : List Bound) → each f (map (moved to) bs) ≡ each g bs
each-moved to f g h [] = refl
each-moved to f g h (b ∷ bs) = ap (λ a. a && each f (map (moved to) bs)) (h b.value b.parameter) ∙ ap (λ a. g b.parameter b.value && a) (each-moved to f g h bs)

pub broken-moved : (to : ℕ → ℕ) (bs : List Bound) → broken (map (moved to) bs) ≡ broken bs
unfolding broken
broken-moved to bs =
    let cs = map (moved to) bs in
    let a : each takes cs ≡ each takes bs =
    each-moved to takes takes (λ v q. ap (λ (r : Tests). r.0) (tests-moved to bs v q)) bs in
    let b : each (is_within cs) cs ≡ each (is_within bs) bs =
    each-moved to (is_within cs) (is_within bs)
    (λ v q.
    ap (λ (r : Tests). r.1) (tests-moved to cs v q) ∙ within-by bs cs (λ p e. number-given to bs p) q v) bs in
    let c : each is_window cs ≡ each is_window bs =
    each-moved to is_window is_window (λ v q. ap (λ (r : Tests). r.2) (tests-moved to bs v q)) bs in
    let d : each is_safe_for cs ≡ each is_safe_for bs =
    each-moved to is_safe_for is_safe_for (λ v q. ap (λ (r : Tests). r.3) (tests-moved to bs v q)) bs in
    rw (a, b, c, d) refl

-- ---- kinds, windows and results

pub kind-moved : (to : ℕ → ℕ) (o : Operation) (bs : List Bound) (names : List (List ℕ)) → kind_for o (map (moved to) bs) names ≡ kind_for o bs names
unfolding kind_for
kind-moved to (op.Window window.Latest nests) bs names = refl
kind-moved to (op.Summarize summary.Mean) bs names = refl
kind-moved to op.StaticSids bs names =
    ap kind.StaticSids
    (ap sorted_sids (values-given to bs parameter.Sid) ∙ sids-moved to (values_given bs parameter.Sid))
kind-moved to op.ElementOf bs names =
    ap (λ ts. kind.LabelTest (kind.ElementOf ts))
    (ap (map text_in) (values-given to bs parameter.Element) ∙ texts-moved to (values_given bs parameter.Element))
kind-moved to o bs names = first_of (cc, simp (number-given), simp (text-given))

pub names-moved : (to : ℕ → ℕ) (o : Operation) (bs : List Bound) (names : List (List ℕ)) → names_after o (map (moved to) bs) names ≡ names_after o bs names
names-moved to op.Label bs names = ap (with_name names) (text-given to bs parameter.Name)
names-moved to op.Number bs names = ap (with_name names) (text-given to bs parameter.Name)
names-moved to op.Age bs names = ap (with_name names) (text-given to bs parameter.Name)
names-moved to o bs names = refl

window-of-moved : (to : ℕ → ℕ) (o : Operation) (v w : Option Value) → window_of o (option_map (renumbered to) v) (option_map (renumbered to) w) ≡ window_of o v w
window-of-moved to o (Some v) w = ap whole (number-moved to v)
window-of-moved to o None (Some v) = ap whole (number-moved to v)
window-of-moved to o None None = refl

pub window-for-moved : (to : ℕ → ℕ) (o : Operation) (bs : List Bound) → window_for o (map (moved to) bs) ≡ window_for o bs
window-for-moved to o bs =
    ap (λ v. window_of o v (given (map (moved to) bs) parameter.LongWindow)) (given-moved to bs parameter.Window) ∙ ap (window_of o (option_map (renumbered to) (given bs parameter.Window))) (given-moved to bs parameter.LongWindow)
    ∙ window-of-moved to o (given bs parameter.Window) (given bs parameter.LongWindow)

all-safe-moved : (to : ℕ → ℕ) (bs : List Bound) → all_safe (map (moved to) bs) ≡ all_safe bs
all-safe-moved to [] = refl
all-safe-moved to (b ∷ bs) = ap (λ a. a && all_safe (map (moved to) bs)) (safe-moved to b.value) ∙ ap (λ a. is_safe b.value && a) (all-safe-moved to bs)

like-moved : (to : ℕ → ℕ) (o : Option Value) (s : Bool) (t : ℕ) → like (option_map (renumbered to) o) s (to t) ≡ renumbered to (like o s t)
like-moved to None s t = refl
like-moved to (Some (Filter u)) s t = refl
like-moved to (Some v) s t = refl

no-bars-moved : (to : ℕ → ℕ) (bs : List Bound) → has_no_bars (map (moved to) bs) ≡ has_no_bars bs
no-bars-moved to [] = refl
no-bars-moved to (b ∷ bs) = ap (λ a. a && has_no_bars (map (moved to) bs)) (ap not (bars-moved to b.value)) ∙ ap (λ a. not (is_bars b.value) && a) (no-bars-moved to bs)

nests-moved : (to : ℕ → ℕ) (o : Operation) (bs : List Bound) → nests_over o (map (moved to) bs) ≡ nests_over o bs
nests-moved to (op.Window k nests) bs = ap (λ a. nests && length (row_of k).columns == 0 && a) (no-bars-moved to bs)
nests-moved to o bs = refl

-- whether a window may be over the term of the operation
may-moved : (to : ℕ → ℕ) (o : Operation) (bs : List Bound) (k : Kind) → is_window_safe k (all_safe (map (moved to) bs)) || nests_safe o (map (moved to) bs) ≡ is_window_safe k (all_safe bs) || nests_safe o bs
may-moved to o bs k =
    ap (λ safe. is_window_safe k safe || (nests_over o (map (moved to) bs) && safe)) (all-safe-moved to bs)
    ∙ ap (λ n. is_window_safe k (all_safe bs) || (n && all_safe bs)) (nests-moved to o bs)

pub result-moved : (to : ℕ → ℕ) (o : Operation) (bs : List Bound) (t : ℕ) → result_for o (map (moved to) bs) (to t) ≡ renumbered to (result_for o bs t)
unfolding result_for kind_for sort_of is_safe_kind is_safe_over
result-moved to op.Downsample bs t =
    ap (λ v. like v (all_safe (map (moved to) bs)) (to t)) (given-moved to bs parameter.AnyTerm) ∙ ap (λ s. like (option_map (renumbered to) (given bs parameter.AnyTerm)) s (to t)) (all-safe-moved to bs)
    ∙ like-moved to (given bs parameter.AnyTerm) (all_safe bs) t
result-moved to (op.Window window.Latest nests) bs t = ap (λ safe. sorted (sort_of (kind_for (op.Window window.Latest nests) bs [])) safe (to t)) (may-moved to (op.Window window.Latest nests) bs (kind_for (op.Window window.Latest nests) bs []))
result-moved to (op.Summarize summary.Mean) bs t = ap (λ safe. sorted (sort_of (kind_for (op.Summarize summary.Mean) bs [])) safe (to t)) (may-moved to (op.Summarize summary.Mean) bs (kind_for (op.Summarize summary.Mean) bs []))
result-moved to o bs t = ap (λ safe. sorted (sort_of (kind_for o bs [])) safe (to t)) (may-moved to o bs (kind_for o bs []))

-- ---- the form of arguments

is-given-moved : (to : ℕ → ℕ) (bs : List Bound) (p : Parameter) → is_given (map (moved to) bs) p ≡ is_given bs p
is-given-moved to bs p = ap is_some (given-moved to bs p) ∙ here (given bs p)
  where
    here : (o : Option Value) → is_some (option_map (renumbered to) o) ≡ is_some o
    here None = refl
    here (Some v) = refl

has-all-moved : (to : ℕ → ℕ) (o : Operation) (bs : List Bound) → has_all o (map (moved to) bs) ≡ has_all o bs
has-all-moved to o bs = all-same (λ p. is_optional p || is_given (map (moved to) bs) p) (λ p. is_optional p || is_given bs p) (parameters o) (λ p. ap (λ a. is_optional p || a) (is-given-moved to bs p))

parameter-moved : (to : ℕ → ℕ) (o : Operation) (n : Bool) (bs : List Bound) (name : Option (List ℕ)) → parameter_of o n (map (moved to) bs) name ≡ parameter_of o n bs name
parameter-moved to o n bs (Some name) = here (named_in (parameters o) name)
  where
    here : (p : Option Parameter) → unless_given (map (moved to) bs) p ≡ unless_given bs p
    here None = refl
    here (Some p) = ap (λ a. cond a None (Some p)) (is-given-moved to bs p)
parameter-moved to o true bs None = refl
parameter-moved to o false bs None = ap (place_at o) (length-map bs (moved to))

pub form-moved : (to : ℕ → ℕ) (o : Operation) (n : Bool) (bs : List Bound) (ws : List Written) → form o n (map (moved to) bs) (map (moved_written to) ws) ≡ option_map (map (moved to)) (form o n bs ws)
unfolding form
form-moved to o n bs [] = ap (λ a. cond a (Some (map (moved to) bs)) None) (has-all-moved to o bs) ∙ here (has_all o bs)
  where
    here : (a : Bool) → cond a (Some (map (moved to) bs)) None ≡ option_map (map (moved to)) (cond a (Some bs) None)
    here true = refl
    here false = refl
form-moved to o n bs (w ∷ ws) =
    ap (option_and_then (λ p. form o (n || is_some w.name) (map (moved to) bs ++ bound p (renumbered to w.value) ∷ []) (map (moved_written to) ws))) (parameter-moved to o n bs w.name)
    ∙ here (parameter_of o n bs w.name)
    (λ p. ap (λ xs. form o (n || is_some w.name) xs (map (moved_written to) ws)) (sym (map-append (moved to) bs (bound p w.value ∷ []))) ∙ form-moved to o (n || is_some w.name) (bs ++ bound p w.value ∷ []) ws)
  where
    here : (p : Option Parameter)
        → ((q : Parameter) → form o (n || is_some w.name) (map (moved to) bs ++ bound q (renumbered to w.value) ∷ []) (map (moved_written to) ws) ≡ option_map (map (moved to)) (form o (n || is_some w.name) (bs ++ bound q w.value ∷ []) ws))
        → option_and_then (λ q. form o (n || is_some w.name) (map (moved to) bs ++ bound q (renumbered to w.value) ∷ []) (map (moved_written to) ws)) p
        ≡ option_map (map (moved to)) (option_and_then (λ q. form o (n || is_some w.name) (bs ++ bound q w.value ∷ []) ws) p)
    here None k = refl
    here (Some p) k = k p

-- ---- objects and operands

first-moved : (to : ℕ → ℕ) (ps : List Parameter) (v : Value)
    → typed.first_of ps (renumbered to v) ≡ map (moved to) (typed.first_of ps v)
first-moved to [] v = refl
first-moved to (p ∷ ps) v = refl

second-moved : (to : ℕ → ℕ) (ps : List Parameter) (v : Value) → second_of ps (renumbered to v) ≡ map (moved to) (second_of ps v)
second-moved to [] v = refl
second-moved to (p ∷ []) v = refl
second-moved to (p ∷ (q ∷ ps)) v = refl

pub object-moved : (to : ℕ → ℕ) (o : Operation) (v : Value) → object_of o (renumbered to v) ≡ map (moved to) (object_of o v)
unfolding object_of
object-moved to o v = first-moved to (parameters o) v

pub operands-moved : (to : ℕ → ℕ) (o : Operation) (v w : Value) → operands_of o (renumbered to v) (renumbered to w) ≡ map (moved to) (operands_of o v w)
operands-moved to o v w =
    ap (λ xs. xs ++ second_of (parameters o) (renumbered to w)) (object-moved to o v) ∙ ap (λ ys. map (moved to) (object_of o v) ++ ys) (second-moved to (parameters o) w)
    ∙ sym (map-append (moved to) (object_of o v) (second_of (parameters o) w))

pub operator-moved : (to : ℕ → ℕ) (sign : BinarySign) (v : Value) → operator sign (renumbered to v) ≡ operator sign v
operator-moved to signs.Equal (Labels t) = refl
operator-moved to signs.NotEqual (Labels t) = refl
operator-moved to sign v = refl
