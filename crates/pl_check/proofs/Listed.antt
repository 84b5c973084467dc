-- How long the lists of sids and of texts are.
use Rattle.std.proofs.Common.{◌≡◌, ℕ, suc, ◌<◌, ◌≤◌, ◌==◌, nat_le, nat_lt, Bool, true, false, ◌&&◌, ◌||◌, cond, List, [], ◌∷◌, ◌++◌, length, map, filter, Option, Some, None, refl, sym, ap, subst, ◌∙◌, arith, bytes_eq, length-append}
use Rattle.std.specs.Prelude.{is_some}
use Rattle.std.proofs.lemmas.Bool.{and_parts, and_from, or_right}
use Rattle.std.proofs.lemmas.Bool.Decides.{nat_tests}
use Rattle.std.specs.List.{list_any}
use Rattle.std.proofs.lemmas.List.{length-map}
use Rattle.std.proofs.Math.Bool.{or-true}
use Rattle.pl_terms.specs.Sorts.{has_length}
use Rattle.pl_check.specs.declared.operation.Operation.{Operation}
use Rattle.pl_pipeline.specs.declared.WindowKind.TheVariants as window
use Rattle.pl_pipeline.specs.declared.Summary.TheVariants as summary
use Rattle.pl_check.specs.declared.operation.Operation.TheVariants as op
use Rattle.pl_check.specs.declared.operation.Parameter.{Parameter}
use Rattle.pl_check.specs.declared.operation.Parameter.TheVariants as parameter
use Rattle.pl_check.specs.Parameters.{name_of, number_of, same_parameter}
use Rattle.pl_check.specs.Values.{Value, Bound, bound, given, number_in, text_in}
use Rattle.pl_check.specs.Operations.{parameters}
use Rattle.pl_check.specs.Rules.{each, is_given, place_at, named_in, unless_given, parameter_of}
use Rattle.pl_check.specs.Results.{whole, with_sid, sorted_sids, values_given}
use Rattle.pl_check.specs.Typed.{object_of}
use Rattle.pl_check.specs.Standing.{Fits, has, is_few}
use Rattle.pl_check.proofs.Lists.{same-one, true-false, needed, or-right, same-self}

-- ---- from the start

pub few-none : (o : Operation) → is_few o [] ≡ true
few-none (op.Window window.Latest nests) = refl
few-none (op.Summarize summary.Mean) = refl
few-none o = refl

pub few-object : (o : Operation) (v : Value) → is_few o (object_of o v) ≡ true
unfolding object_of parameters given number_of
few-object (op.Window window.Latest nests) v = refl
few-object (op.Summarize summary.Mean) v = refl
few-object o v = refl

-- ---- one more

given-first : (b : Bound) (bs : List Bound) (p : Parameter) (a : Bool) → same_parameter b.parameter p ≡ a → is_given (b ∷ bs) p ≡ cond a true (is_given bs p)
unfolding given
given-first b bs p true h = rw h refl
given-first b bs p false h = rw h refl

behind-given : (bs : List Bound) (x : Bound) (p : Parameter) → is_given bs p ≡ true → is_given (bs ++ x ∷ []) p ≡ true
unfolding given
behind-given [] x p h = absurd (let no : false ≡ true = h in cc)
behind-given (b ∷ bs) x p h =
    given-first b (bs ++ x ∷ []) p (same_parameter b.parameter p) refl
    ∙ here (same_parameter b.parameter p) (sym (given-first b bs p (same_parameter b.parameter p) refl) ∙ h) (behind-given bs x p)
  where
    here : (a : Bool) → cond a true (is_given bs p) ≡ true → (is_given bs p ≡ true → is_given (bs ++ x ∷ []) p ≡ true) → cond a true (is_given (bs ++ x ∷ []) p) ≡ true
    here true e k = refl
    here false e k = k e

last-given : (bs : List Bound) (p : Parameter) (v : Value) → is_given (bs ++ bound p v ∷ []) p ≡ true
last-given [] p v = given-first (bound p v) [] p true (same-self p)
last-given (b ∷ bs) p v =
    given-first b (bs ++ bound p v ∷ []) p (same_parameter b.parameter p) refl ∙ here (same_parameter b.parameter p) (last-given bs p v)
  where
    here : (a : Bool) → is_given (bs ++ bound p v ∷ []) p ≡ true → cond a true (is_given (bs ++ bound p v ∷ []) p) ≡ true
    here true k = refl
    here false k = k

pub unless-parts : (bs : List Bound) (o : Option Parameter) (p : Parameter) → unless_given bs o ≡ Some p → (o ≡ Some p) × (is_given bs p ≡ false)
unless-parts bs None p h = absurd (let no : None ≡ Some p = h in cc)
unless-parts bs (Some q) p h = here (is_given bs q) refl h
  where
    here : (a : Bool) → is_given bs q ≡ a → cond a None (Some q) ≡ Some p → (Some q ≡ Some p) × (is_given bs p ≡ false)
    here true e k = absurd (let no : None ≡ Some p = k in cc)
    here false e k = let same : q ≡ p = cc in (k, subst (λ x. is_given bs x ≡ false) same e)

pub named-has : (ps : List Parameter) (n : List ℕ) (p : Parameter) → named_in ps n ≡ Some p → list_any (same_parameter p) ps ≡ true
unfolding named_in
named-has [] n p h = absurd (let no : None ≡ Some p = h in cc)
named-has (q ∷ qs) n p h = here (bytes_eq n (name_of q)) h (named-has qs n p)
  where
    here : (a : Bool) → cond a (Some q) (named_in qs n) ≡ Some p → (named_in qs n ≡ Some p → list_any (same_parameter p) qs ≡ true) → (same_parameter p q || list_any (same_parameter p) qs) ≡ true
    here true e k = let is : q ≡ p = (let s : Some q ≡ Some p = e in cc) in ap (λ x. same_parameter p x || list_any (same_parameter p) qs) is ∙ ap (λ b. b || list_any (same_parameter p) qs) (same-self p)
    here false e k = ap (λ b. same_parameter p q || b) (k e) ∙ or-true (same_parameter p q)

-- ---- sids

sid-alone : (q : Parameter) → has op.StaticSids q ≡ true → q ≡ parameter.Sid
unfolding parameters
sid-alone q h = here (same_parameter q parameter.Sid) refl h
  where
    here : (a : Bool) → same_parameter q parameter.Sid ≡ a → (a || false) ≡ true → q ≡ parameter.Sid
    here true e k = same-one q parameter.Sid e
    here false e k = absurd (let no : false ≡ true = k in cc)

no-sids : (bs : List Bound) → each (λ p v. has op.StaticSids p) bs ≡ true → is_given bs parameter.Sid ≡ false → length bs ≤ 0
no-sids [] w h = omega arith
no-sids (b ∷ bs) w h =
    let own = sid-alone b.parameter (and_parts (has op.StaticSids b.parameter) (each (λ p v. has op.StaticSids p) bs) w).0 in
    let yes : same_parameter b.parameter parameter.Sid ≡ true = ap (λ q. same_parameter q parameter.Sid) own ∙ same-self parameter.Sid in
    true-false (is_given (b ∷ bs) parameter.Sid) (given-first b bs parameter.Sid true yes) h

one-longer : (bs : List Bound) (x : Bound) (n : ℕ) → length bs < n → nat_le (length (bs ++ x ∷ [])) n ≡ true
one-longer bs x n h = let l = length-append bs (x ∷ []) in let m : length (bs ++ x ∷ []) ≤ n = omega arith in grind (arith, nat_tests)

sid-place : (bs : List Bound) (p : Parameter) (a : Bool) → nat_lt (length bs) 500 ≡ a → cond a (Some parameter.Sid) None ≡ Some p → length bs < 500
sid-place bs p true e h = grind (arith, nat_tests)
sid-place bs p false e h = absurd (let no : None ≡ Some p = h in cc)

sids-next : (begun : Bool) (bs : List Bound) (n : Option (List ℕ)) (p : Parameter) (v : Value) → each (λ p v. has op.StaticSids p) bs ≡ true → parameter_of op.StaticSids begun bs n ≡ Some p
    → is_few op.StaticSids (bs ++ bound p v ∷ []) ≡ true
unfolding place_at
sids-next begun bs (Some n) p v w h =
    let y = unless-parts bs (named_in (parameters op.StaticSids) n) p h in
    let is = sid-alone p (named-has (parameters op.StaticSids) n p y.0) in
    let none = no-sids bs w (ap (is_given bs) (sym is) ∙ y.1) in
    one-longer bs (bound p v) 500 (omega arith)
sids-next true bs None p v w h = absurd (let no : None ≡ Some p = h in cc)
sids-next false bs None p v w h = one-longer bs (bound p v) 500 (sid-place bs p (nat_lt (length bs) 500) refl h)

-- ---- texts

named-object : (n : List ℕ) (p : Parameter) → named_in (parameters op.ElementOf) n ≡ Some p → p ≡ parameter.LabelClassifier
unfolding parameters named_in name_of
named-object n p h = here (bytes_eq n []) h
  where
    here : (a : Bool) → cond a (Some parameter.LabelClassifier) (cond a (Some parameter.Element) None) ≡ Some p → p ≡ parameter.LabelClassifier
    here true k = let same : parameter.LabelClassifier ≡ p = cc in sym same
    here false k = absurd (let no : None ≡ Some p = k in cc)

either : (n : ℕ) (g : Bool) → (n == 0 || g) ≡ true → g ≡ false → n ≤ 0
either n g h e = here (n == 0) refl h
  where
    here : (a : Bool) → (n == 0) ≡ a → (a || g) ≡ true → n ≤ 0
    here true q k = grind (arith, nat_tests)
    here false q k = absurd (let no : true ≡ false = sym k ∙ e in cc)

element-place : (bs : List Bound) (p : Parameter) (v : Value) (a b : Bool) → (length bs == 0) ≡ a → nat_lt (length bs) 101 ≡ b
    → ((length bs == 0) || is_given bs parameter.LabelClassifier) ≡ true → cond a (Some parameter.LabelClassifier) (cond b (Some parameter.Element) None) ≡ Some p
    → (length bs < 101) × (is_given (bs ++ bound p v ∷ []) parameter.LabelClassifier ≡ true)
element-place bs p v true b e f g h =
    let same : parameter.LabelClassifier ≡ p = cc in
    (grind (arith, nat_tests), subst (λ q. is_given (bs ++ bound q v ∷ []) parameter.LabelClassifier ≡ true) same (last-given bs parameter.LabelClassifier v))
element-place bs p v false true e f g h =
    (grind (arith, nat_tests), behind-given bs (bound p v) parameter.LabelClassifier (or-right (length bs == 0) (is_given bs parameter.LabelClassifier) g e))
element-place bs p v false false e f g h = absurd (let no : None ≡ Some p = h in cc)

elements-next : (begun : Bool) (bs : List Bound) (n : Option (List ℕ)) (p : Parameter) (v : Value) → is_few op.ElementOf bs ≡ true → parameter_of op.ElementOf begun bs n ≡ Some p
    → is_few op.ElementOf (bs ++ bound p v ∷ []) ≡ true
unfolding place_at
elements-next begun bs (Some n) p v f h =
    let y = unless-parts bs (named_in (parameters op.ElementOf) n) p h in
    let is = named-object n p y.0 in
    let r = and_parts (nat_le (length bs) 101) ((length bs == 0) || is_given bs parameter.LabelClassifier) f in
    let none = either (length bs) (is_given bs parameter.LabelClassifier) r.1 (ap (is_given bs) (sym is) ∙ y.1) in
    and_from (nat_le (length (bs ++ bound p v ∷ [])) 101) _ (one-longer bs (bound p v) 101 (omega arith))
    (or_right (length (bs ++ bound p v ∷ []) == 0) _ (subst (λ q. is_given (bs ++ bound q v ∷ []) parameter.LabelClassifier ≡ true) (sym is) (last-given bs parameter.LabelClassifier v)))
elements-next true bs None p v f h = absurd (let no : None ≡ Some p = h in cc)
elements-next false bs None p v f h =
    let r = and_parts (nat_le (length bs) 101) ((length bs == 0) || is_given bs parameter.LabelClassifier) f in
    let y = element-place bs p v (length bs == 0) (nat_lt (length bs) 101) refl refl r.1 h in
    and_from (nat_le (length (bs ++ bound p v ∷ [])) 101) _ (one-longer bs (bound p v) 101 y.0) (or_right (length (bs ++ bound p v ∷ []) == 0) _ y.1)

pub few-next : (o : Operation) (begun : Bool) (bs : List Bound) (n : Option (List ℕ)) (p : Parameter) (v : Value) → each (λ p v. has o p) bs ≡ true → is_few o bs ≡ true
    → parameter_of o begun bs n ≡ Some p → is_few o (bs ++ bound p v ∷ []) ≡ true
few-next op.StaticSids begun bs n p v w f h = sids-next begun bs n p v w h
few-next op.ElementOf begun bs n p v w f h = elements-next begun bs n p v f h
few-next o begun bs n p v w f h = refl

-- ---- what is given

count-step : (a : Bool) (v : Value) (xs : List Bound) (b : Bound) (n : ℕ) → length (map (λ (c : Bound). c.value) xs) ≤ n → length (map (λ (c : Bound). c.value) (cond a (b ∷ xs) xs)) ≤ suc n
count-step true v xs b n h = omega arith
count-step false v xs b n h = omega arith

values-few : (bs : List Bound) (p : Parameter) → length (values_given bs p) ≤ length bs
values-few [] p = omega arith
values-few (b ∷ bs) p = count-step (same_parameter b.parameter p) b.value (filter (λ c. same_parameter c.parameter p) bs) b (length bs) (values-few bs p)

values-some : (bs : List Bound) (p : Parameter) → is_given bs p ≡ true → 1 ≤ length (values_given bs p)
unfolding given
values-some [] p h = absurd (let no : false ≡ true = h in cc)
values-some (b ∷ bs) p h = here (same_parameter b.parameter p) (sym (given-first b bs p (same_parameter b.parameter p) refl) ∙ h) (values-some bs p)
  where
    here : (a : Bool) → cond a true (is_given bs p) ≡ true → (is_given bs p ≡ true → 1 ≤ length (values_given bs p))
        → 1 ≤ length (map (λ (c : Bound). c.value) (cond a (b ∷ filter (λ c. same_parameter c.parameter p) bs) (filter (λ c. same_parameter c.parameter p) bs)))
    here true e k = omega arith
    here false e k = k e

-- another one is given beside
values-fewer : (bs : List Bound) (p q : Parameter) → same_parameter q p ≡ false → is_given bs q ≡ true → suc (length (values_given bs p)) ≤ length bs
unfolding given
values-fewer [] p q d h = absurd (let no : false ≡ true = h in cc)
values-fewer (b ∷ bs) p q d h = here (same_parameter b.parameter q) refl (sym (given-first b bs q (same_parameter b.parameter q) refl) ∙ h) (values-fewer bs p q d)
  where
    rest : List Bound
    rest = filter (λ c. same_parameter c.parameter p) bs

    more : (a : Bool) → suc (length (values_given bs p)) ≤ length bs → suc (length (map (λ (c : Bound). c.value) (cond a (b ∷ rest) rest))) ≤ suc (length bs)
    more true k = omega arith
    more false k = omega arith

    none : (a : Bool) → a ≡ false → suc (length (map (λ (c : Bound). c.value) (cond a (b ∷ rest) rest))) ≤ suc (length bs)
    none true e = absurd (let no : true ≡ false = e in cc)
    none false e = let f = values-few bs p in omega arith

    here : (a : Bool) → same_parameter b.parameter q ≡ a → cond a true (is_given bs q) ≡ true → (is_given bs q ≡ true → suc (length (values_given bs p)) ≤ length bs)
        → suc (length (map (λ (c : Bound). c.value) (cond (same_parameter b.parameter p) (b ∷ rest) rest))) ≤ suc (length bs)
    here true e k f = none (same_parameter b.parameter p) (ap (λ x. same_parameter x p) (same-one b.parameter q e) ∙ d)
    here false e k f = more (same_parameter b.parameter p) (f k)

-- ---- sorted sids

with-step : (a b : Bool) (n m : ℕ) (ms xs : List ℕ) → 1 ≤ length (cond a (m ∷ ms) (cond b (n ∷ m ∷ ms) (m ∷ xs)))
with-step true b n m ms xs = omega arith
with-step false true n m ms xs = omega arith
with-step false false n m ms xs = omega arith

with-some : (n : ℕ) (ms : List ℕ) → 1 ≤ length (with_sid n ms)
unfolding with_sid
with-some n [] = omega arith
with-some n (m ∷ ms) = with-step (n == m) (nat_lt n m) n m ms (with_sid n ms)

with-most : (a b : Bool) (n m : ℕ) (ms xs : List ℕ) → length xs ≤ suc (length ms) → length (cond a (m ∷ ms) (cond b (n ∷ m ∷ ms) (m ∷ xs))) ≤ suc (suc (length ms))
with-most true b n m ms xs h = omega arith
with-most false true n m ms xs h = omega arith
with-most false false n m ms xs h = omega arith

with-few : (n : ℕ) (ms : List ℕ) → length (with_sid n ms) ≤ suc (length ms)
unfolding with_sid
with-few n [] = omega arith
with-few n (m ∷ ms) = with-most (n == m) (nat_lt n m) n m ms (with_sid n ms) (with-few n ms)

sids-few : (vs : List Value) → length (sorted_sids vs) ≤ length vs
unfolding sorted_sids
sids-few [] = omega arith
sids-few (v ∷ vs) = let a = with-few (whole (number_in v)) (sorted_sids vs) in let b = sids-few vs in omega arith

sids-some : (vs : List Value) → 1 ≤ length vs → 1 ≤ length (sorted_sids vs)
unfolding sorted_sids
sids-some [] h = absurd (let no : 1 ≤ 0 = h in omega arith)
sids-some (v ∷ vs) h = with-some (whole (number_in v)) (sorted_sids vs)

between : (low high n : ℕ) → low ≤ n → n ≤ high → (nat_le low n && nat_le n high) ≡ true
between low high n h k = and_from (nat_le low n) (nat_le n high) (grind (arith, nat_tests)) (grind (arith, nat_tests))

pub sids-counted : (bs : List Bound) → Fits op.StaticSids bs → has_length 1 500 (sorted_sids (values_given bs parameter.Sid)) ≡ true
unfolding parameters number_of
sids-counted bs f =
    let vs = values_given bs parameter.Sid in
    let x = needed op.StaticSids bs parameter.Sid f refl refl in
    let a = sids-some vs (values-some bs parameter.Sid (ap is_some x.1)) in
    let b = sids-few vs in
    let c = values-few bs parameter.Sid in
    let t = f.few in
    let d : length bs ≤ 500 = grind (arith, nat_tests) in
    between 1 500 (length (sorted_sids vs)) a (omega arith)

pub texts-counted : (bs : List Bound) → Fits op.ElementOf bs → has_length 1 100 (map text_in (values_given bs parameter.Element)) ≡ true
unfolding parameters number_of
texts-counted bs f =
    let vs = values_given bs parameter.Element in
    let x = needed op.ElementOf bs parameter.Element f refl refl in
    let y = needed op.ElementOf bs parameter.LabelClassifier f refl refl in
    let a = values-some bs parameter.Element (ap is_some x.1) in
    let b = values-fewer bs parameter.Element parameter.LabelClassifier refl (ap is_some y.1) in
    let r = and_parts (nat_le (length bs) 101) ((length bs == 0) || is_given bs parameter.LabelClassifier) f.few in
    let t : nat_le (length bs) 101 ≡ true = r.0 in
    let d : length bs ≤ 101 = grind (arith, nat_tests) in
    let l : length (map text_in vs) ≡ length vs = length-map vs text_in in
    between 1 100 (length (map text_in vs)) (omega arith) (omega arith)
