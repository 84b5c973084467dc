-- A script and the same where no term is shared, expression by expression.
use Rattle.std.proofs.Common.{◌≡◌, ℕ, Bool, true, false, ◌&&◌, ◌||◌, not, cond, ◌⊎◌, List, [], ◌∷◌, ◌++◌, map, Option, Some, None, option_map, slice_get, Result, Ok, Err, refl, sym, ap, subst, ◌∙◌, inl, inr, append_assoc, append-nil, bytes_eq}
use Rattle.std.specs.Prelude.{is_some, option_and_then}
use Rattle.std.specs.Result.{IfOk}
use Rattle.std.proofs.lemmas.List.{map-append}
use Rattle.std.proofs.lemmas.Result.{IfOk-weaker}
use Rattle.pl_spec.specs.declared.Column.{Column}
use Rattle.pl_spec.proofs.Each.{Each, each_both, each_more, each_of_map, map_each}
use Rattle.pl_pipeline.specs.Term.{Graph}
use Rattle.pl_pipeline.specs.declared.Summary.TheVariants as summary
use Rattle.pl_pipeline.specs.declared.WindowKind.TheVariants as window
use Rattle.pl_pipeline.proofs.Unfolds.{stands}
use Rattle.pl_terms.specs.Nodes.{interned}
use Rattle.pl_grammar.specs.declared.Place.{Place}
use Rattle.pl_grammar.specs.declared.PrefixSign.{PrefixSign}
use Rattle.pl_grammar.specs.declared.PrefixSign.TheVariants.{Minus}
use Rattle.pl_grammar.specs.declared.BinarySign.{BinarySign}
use Rattle.pl_grammar.specs.declared.BinarySign.TheVariants as signs
use Rattle.pl_grammar.specs.Tree.{Tree, number, text, name, call, prefix, binary, member, method, Args, no_args, arg}
use Rattle.pl_check.specs.declared.fault.CheckFault.{CheckFault}
use Rattle.pl_check.specs.declared.fault.CheckFault.TheVariants.{UnknownName, BadArgument, TooManyTerms}
use Rattle.pl_check.specs.declared.operation.Operation.{Operation}
use Rattle.pl_check.specs.declared.operation.Operation.TheVariants as op
use Rattle.pl_check.specs.declared.operation.Parameter.{Parameter}
use Rattle.pl_check.specs.declared.operation.Parameter.TheVariants as parameter
use Rattle.pl_check.specs.Faults.{Broken, ◌>>=◌, or_fault, unless}
use Rattle.pl_check.specs.Values.{Value, Bars, Factor, Labels, Number, Text, Bound, bound}
use Rattle.pl_check.specs.Operations.{function_named, member_named, without_parentheses, operator, prefix_operator, parameters}
use Rattle.pl_check.specs.Rules.{Written, parameter_of, has_all, form, broken}
use Rattle.pl_check.specs.Typed.{Terms, Found, found, Definition, bar_column, defined, value_named, made, applied, called, object_of, prefixed, operands_of, combined, member_of, method_of, written, names_mask, names_other, name_others, mask_in, without_mask, kept_where, told_of, told_method, greatest_where, one_asset, names_one_asset, name_or_none, name_of_kind, number_named, aged, names_age, member_named_of, method_named_of, function_called, worth, args_worth}
use Rattle.pl_check.specs.Typed as typed
use Rattle.pl_check.specs.Trees.{added}
use Rattle.pl_check.proofs.Renumbered.{renumbered, moved, moved_written, broken-moved, form-moved, object-moved, operands-moved, operator-moved}
use Rattle.pl_check.proofs.Rooted.{IsIn, AllIn, values}
use Rattle.pl_check.proofs.Chained.{then-ok}
use Rattle.pl_check.proofs.Extended.{IsOver, over-later, of_value, of_written, Adding, then-adds, method-adds, greatest-adds, function-adds, prefixed-adds, combined-adds, member-adds, named-adds, worth-adds, args-add}
use Rattle.pl_check.proofs.Counted.{Same, Further, further-same, further-still, in-later, all-later, value-later, Means, MeansValue, means-behind, Puts, made-puts}

-- Where there is a value, the other has one that is the same but for its numbers; a fault is the same, unless
-- the other's trees are too many.
abbrev pub Agrees : {A B : Type 0} → (B → Graph) → (A → B → Type 0) → Result A Broken → Result B Broken → Type 0
Agrees {A} {B} F R (Ok x) q = (y : B) × (q ≡ Ok y) × R x y
Agrees {A} {B} F R (Err e) q = ((e.fault ≡ TooManyTerms) × IfOk q (λ y. IsOver (F y))) ⊎ (q ≡ Err e)

pub then-agrees : {A B C D : Type 0} (F : B → Graph) (G : D → Graph) (R : A → B → Type 0) (S : C → D → Type 0) (r : Result A Broken) (q : Result B Broken) (f : A → Result C Broken) (g : B → Result D Broken)
    → Agrees F R r q → ((x : A) (y : B) → R x y → Agrees G S (f x) (g y)) → ((y : B) → (b : Bool) × Adding G b (F y) (g y)) → Agrees G S (r >>= f) (q >>= g)
then-agrees F G R S (Ok x) q f g h k l = subst (λ z. Agrees G S (f x) (z >>= g)) (sym h.1) (k x h.0 h.2)
then-agrees F G R S (Err e) q f g (inl t) k l = inl (t.0, then-ok _ _ q g t.1 (λ y o. IfOk-weaker (g y) _ _ (λ z e. over-later (l y).0 (F y) (G z) e o) (l y).1))
then-agrees F G R S (Err e) q f g (inr s) k l = inr (ap (λ z. z >>= g) s)

-- the same thing is looked up
looked-agrees : {A C D : Type 0} (G : D → Graph) (S : C → D → Type 0) (k : CheckFault) (p : Place) (o : Option A) (f : A → Result C Broken) (g : A → Result D Broken)
    → ((x : A) → Agrees G S (f x) (g x)) → Agrees G S (or_fault k p o >>= f) (or_fault k p o >>= g)
looked-agrees G S k p None f g h = inr refl
looked-agrees G S k p (Some x) f g h = h x

pub weaker : {A B : Type 0} (F : B → Graph) (R S : A → B → Type 0) (r : Result A Broken) (q : Result B Broken) → ((x : A) (y : B) → R x y → S x y) → Agrees F R r q → Agrees F S r q
weaker F R S (Ok x) q h a = (a.0, a.1, h x a.0 a.2)
weaker F R S (Err e) q h a = a

abbrev pub AgreesValue : Graph → (ℕ → ℕ) → Result (Found Value) Broken → Result (Found Value) Broken → Type 0
AgreesValue f to r q = Agrees of_value (MeansValue f to) r q

behind : (f g : Graph) (to more : ℕ → ℕ) (r q : Result (Found Value) Broken) → Further f g to more → AgreesValue g more r q → AgreesValue f to r q
behind f g to more r q h a = weaker of_value (MeansValue g more) (MeansValue f to) r q (λ x y m. means-behind IsIn renumbered f g to more x y h m) a

found-means : (s f : Terms) (to : ℕ → ℕ) (v x : Value) → Same s f to → IsIn f.graph v → x ≡ renumbered to v → MeansValue f.graph to (found x s) (found v f)
found-means s f to v x w i e = record { to_after = to; further = further-same f.graph to; inside = i; is = e; same = w }

-- ---- operations

applied-agrees : (p : Place) (o : Operation) (bs : List Bound) (s f : Terms) (to : ℕ → ℕ) → Same s f to → AllIn f.graph (values bs) → AgreesValue f.graph to (applied interned p o (map (moved to) bs) s) (applied added p o bs f)
unfolding applied
applied-agrees p o bs s f to w i =
    subst (λ c. AgreesValue f.graph to (unless c p (or_fault TooManyTerms p (made interned o (map (moved to) bs) s))) (unless (broken bs) p (or_fault TooManyTerms p (made added o bs f)))) (sym (broken-moved to bs))
    (here (broken bs) (made interned o (map (moved to) bs) s) (made added o bs f) (made-puts s f to o bs w i))
  where
    here : (c : Option CheckFault) (r q : Option (Found Value)) → Puts (MeansValue f.graph to) r q → AgreesValue f.graph to (unless c p (or_fault TooManyTerms p r)) (unless c p (or_fault TooManyTerms p q))
    here (Some k) r q h = inr refl
    here None r None h = absurd h
    here None None (Some y) h = inl (refl, h)
    here None (Some x) (Some y) h = (y, refl, h)

-- what arguments are worth
abbrev pub worths : List Written → List Value
worths ws = map (λ w. w.value) ws

form-values : (o : Operation) (n : Bool) (bs : List Bound) (ws : List Written) (r : List Bound) → form o n bs ws ≡ Some r → values r ≡ values bs ++ worths ws
unfolding form
form-values o n bs [] r h = here (has_all o bs) h
  where
    here : (a : Bool) → cond a (Some bs) None ≡ Some r → values r ≡ values bs ++ []
    here true e = (let q : bs ≡ r = (let s : Some bs ≡ Some r = e in cc) in ap values (sym q)) ∙ sym (append-nil (values bs))
    here false e = absurd (let no : None ≡ Some r = e in cc)
form-values o n bs (w ∷ ws) r h =
    here (parameter_of o n bs w.name) h (λ p e. form-values o (n || is_some w.name) (bs ++ bound p w.value ∷ []) ws r e ∙ ap (λ vs. vs ++ worths ws) (map-append (λ (b : Bound). b.value) bs (bound p w.value ∷ [])) ∙ append_assoc (values bs) (w.value ∷ []) (worths ws))
  where
    here : (q : Option Parameter) → option_and_then (λ p. form o (n || is_some w.name) (bs ++ bound p w.value ∷ []) ws) q ≡ Some r
        → ((p : Parameter) → form o (n || is_some w.name) (bs ++ bound p w.value ∷ []) ws ≡ Some r → values r ≡ values bs ++ w.value ∷ worths ws) → values r ≡ values bs ++ w.value ∷ worths ws
    here None e k = absurd (let no : None ≡ Some r = e in cc)
    here (Some p) e k = k p e

called-agrees : (p : Place) (o : Operation) (object : List Bound) (ws : List Written) (s f : Terms) (to : ℕ → ℕ) → Same s f to → AllIn f.graph (values object) → AllIn f.graph (worths ws)
    → AgreesValue f.graph to (called interned p o (map (moved to) object) (map (moved_written to) ws) s) (called added p o object ws f)
unfolding called
called-agrees p o object ws s f to w i k =
    subst (λ c. AgreesValue f.graph to (or_fault BadArgument p c >>= λ bs. applied interned p o bs s) (or_fault BadArgument p (form o false object ws) >>= λ bs. applied added p o bs f)) (sym (form-moved to o false object ws))
    (here (form o false object ws) refl)
  where
    here : (c : Option (List Bound)) → form o false object ws ≡ c → AgreesValue f.graph to (or_fault BadArgument p (option_map (map (moved to)) c) >>= λ bs. applied interned p o bs s) (or_fault BadArgument p c >>= λ bs. applied added p o bs f)
    here None e = inr refl
    here (Some bs) e = applied-agrees p o bs s f to w (subst (AllIn f.graph) (sym (form-values o false object ws bs e)) (each_both (IsIn f.graph) (values object) (worths ws) i k))

-- ---- objects and operands

object-value : (o : Operation) (v : Value) → values (object_of o v) ≡ v ∷ []
unfolding object_of parameters
object-value (op.Window window.Latest nests) v = refl
object-value (op.Summarize summary.Mean) v = refl
object-value o v = refl

object-in : (g : Graph) (o : Operation) (v : Value) → IsIn g v → AllIn g (values (object_of o v))
object-in g o v i = subst (AllIn g) (sym (object-value o v)) (i, tt)

object-agrees : (p : Place) (o : Operation) (v : Value) (s f : Terms) (to : ℕ → ℕ) → Same s f to → IsIn f.graph v → AgreesValue f.graph to (applied interned p o (object_of o (renumbered to v)) s) (applied added p o (object_of o v) f)
object-agrees p o v s f to w i =
    subst (λ bs. AgreesValue f.graph to (applied interned p o bs s) (applied added p o (object_of o v) f)) (sym (object-moved to o v)) (applied-agrees p o (object_of o v) s f to w (object-in f.graph o v i))

prefixed-agrees : (p : Place) (sign : PrefixSign) (v : Value) (s f : Terms) (to : ℕ → ℕ) → Same s f to → IsIn f.graph v → AgreesValue f.graph to (prefixed interned p sign (renumbered to v) s) (prefixed added p sign v f)
unfolding prefixed
prefixed-agrees p Minus (Number n) s f to w i = (_, refl, found-means s f to _ _ w (λ k e. absurd (let no : None ≡ Some k = e in cc)) refl)
prefixed-agrees p sign v s f to w i = object-agrees p (prefix_operator sign) v s f to w i

operands-values : (sign : BinarySign) (x v w : Value) → values (operands_of (operator sign x) v w) ≡ v ∷ w ∷ []
unfolding object_of parameters
operands-values signs.Equal (Labels t) v w = refl
operands-values signs.NotEqual (Labels t) v w = refl
operands-values sign x v w = refl

combined-agrees : (p : Place) (sign : BinarySign) (v x : Value) (s f : Terms) (to : ℕ → ℕ) → Same s f to → IsIn f.graph v → IsIn f.graph x
    → AgreesValue f.graph to (combined interned p sign (renumbered to v) (renumbered to x) s) (combined added p sign v x f)
unfolding combined
combined-agrees p sign v x s f to w i k =
    let o = operator sign v in
    subst (λ z. AgreesValue f.graph to (applied interned p z (operands_of z (renumbered to v) (renumbered to x)) s) (applied added p o (operands_of o v x) f)) (sym (operator-moved to sign v))
    (subst (λ bs. AgreesValue f.graph to (applied interned p o bs s) (applied added p o (operands_of o v x) f)) (sym (operands-moved to o v x))
    (applied-agrees p o (operands_of o v x) s f to w (subst (AllIn f.graph) (sym (operands-values sign v v x)) (i, (k, tt)))))

member-agrees : (p : Place) (v : Value) (s f : Terms) (to : ℕ → ℕ) (o : Operation) → Same s f to → IsIn f.graph v → AgreesValue f.graph to (member_of interned p (renumbered to v) s o) (member_of added p v f o)
member-agrees p v s f to o w i = here (without_parentheses o)
  where
    here : (a : Bool) → AgreesValue f.graph to (cond a (applied interned p o (object_of o (renumbered to v)) s) (Err (record { fault = BadArgument; place = p })))
        (cond a (applied added p o (object_of o v) f) (Err (record { fault = BadArgument; place = p })))
    here true = object-agrees p o v s f to w i
    here false = inr refl

method-agrees : (p : Place) (v : Value) (ws : List Written) (s f : Terms) (to : ℕ → ℕ) (o : Operation) → Same s f to → IsIn f.graph v → AllIn f.graph (worths ws)
    → AgreesValue f.graph to (method_of interned p (renumbered to v) (map (moved_written to) ws) s o) (method_of added p v ws f o)
method-agrees p v ws s f to o w i k = here (without_parentheses o)
  where
    here : (a : Bool) → AgreesValue f.graph to (cond a (Err (record { fault = BadArgument; place = p })) (called interned p o (object_of o (renumbered to v)) (map (moved_written to) ws) s))
        (cond a (Err (record { fault = BadArgument; place = p })) (called added p o (object_of o v) ws f))
    here true = inr refl
    here false =
        subst (λ bs. AgreesValue f.graph to (called interned p o bs (map (moved_written to) ws) s) (called added p o (object_of o v) ws f)) (sym (object-moved to o v))
        (called-agrees p o (object_of o v) ws s f to w (object-in f.graph o v i) k)

-- ---- masks of summaries, and the value of one asset

written-later : (f g : Graph) (to more : ℕ → ℕ) (ws : List Written) → Further f g to more → AllIn f (worths ws) → map (moved_written more) ws ≡ map (moved_written to) ws
written-later f g to more ws h i =
    map_each (moved_written more) (moved_written to) ws
    (each_more _ _ ws (λ (w : Written) k. ap (λ x. record { name = w.name; value = x }) (value-later f g to more w.value h k)) (each_of_map (IsIn f) (λ (w : Written). w.value) ws i))

others-named : (to : ℕ → ℕ) (ws : List Written) → name_others (map (moved_written to) ws) ≡ name_others ws
others-named to [] = refl
others-named to (w ∷ ws) = ap (λ b. names_other w.name && b) (others-named to ws)

mask-moved : (to : ℕ → ℕ) (ws : List Written) → mask_in (map (moved_written to) ws) ≡ option_map (renumbered to) (mask_in ws)
mask-moved to [] = refl
mask-moved to (w ∷ ws) = ap (λ a. cond (names_mask w.name) (cond a (Some (renumbered to w.value)) None) (mask_in (map (moved_written to) ws))) (others-named to ws) ∙ here (names_mask w.name) (name_others ws) (mask-moved to ws)
  where
    here : (a b : Bool) → mask_in (map (moved_written to) ws) ≡ option_map (renumbered to) (mask_in ws)
        → cond a (cond b (Some (renumbered to w.value)) None) (mask_in (map (moved_written to) ws)) ≡ option_map (renumbered to) (cond a (cond b (Some w.value) None) (mask_in ws))
    here true true e = refl
    here true false e = refl
    here false b e = e

unmasked : (to : ℕ → ℕ) (ws : List Written) → without_mask (map (moved_written to) ws) ≡ map (moved_written to) (without_mask ws)
unmasked to [] = refl
unmasked to (w ∷ ws) = here (names_mask w.name) (unmasked to ws)
  where
    here : (b : Bool) → without_mask (map (moved_written to) ws) ≡ map (moved_written to) (without_mask ws)
        → cond (not b) (moved_written to w ∷ without_mask (map (moved_written to) ws)) (without_mask (map (moved_written to) ws)) ≡ map (moved_written to) (cond (not b) (w ∷ without_mask ws) (without_mask ws))
    here true e = e
    here false e = ap (λ l. moved_written to w ∷ l) e

mask-in-graph : (g : Graph) (ws : List Written) (x : Value) → mask_in ws ≡ Some x → AllIn g (worths ws) → IsIn g x
mask-in-graph g [] x h k = absurd (let no : None ≡ Some x = h in cc)
mask-in-graph g (w ∷ ws) x h k = here (names_mask w.name) h (λ e. mask-in-graph g ws x e k.1)
  where
    alone : (a : Bool) → cond a (Some w.value) None ≡ Some x → IsIn g x
    alone true e = subst (IsIn g) (let q : Some w.value ≡ Some x = e in let z : w.value ≡ x = cc in z) k.0
    alone false e = absurd (let no : None ≡ Some x = e in cc)

    here : (b : Bool) → cond b (cond (name_others ws) (Some w.value) None) (mask_in ws) ≡ Some x → (mask_in ws ≡ Some x → IsIn g x) → IsIn g x
    here true e more = alone (name_others ws) e
    here false e more = more e

unmasked-in : (g : Graph) (ws : List Written) → AllIn g (worths ws) → AllIn g (worths (without_mask ws))
unmasked-in g [] k = tt
unmasked-in g (w ∷ ws) k = here (names_mask w.name) (unmasked-in g ws k.1)
  where
    here : (b : Bool) → AllIn g (worths (without_mask ws)) → AllIn g (worths (cond (not b) (w ∷ without_mask ws) (without_mask ws)))
    here true r = r
    here false r = (k.0, r)

-- a member of what was found, with arguments
after-agrees : (p : Place) (xs ws : List Written) (f : Graph) (to : ℕ → ℕ) (r m : Found Value) (o : Operation) (j : MeansValue f to r m) → xs ≡ map (moved_written j.to_after) ws → AllIn m.terms.graph (worths ws)
    → AgreesValue f to (method_of interned p r.value xs r.terms o) (method_of added p m.value ws m.terms o)
after-agrees p xs ws f to r m o j e k =
    subst (λ z. AgreesValue f to (method_of interned p z xs r.terms o) (method_of added p m.value ws m.terms o)) (sym j.is)
    (subst (λ z. AgreesValue f to (method_of interned p (renumbered j.to_after m.value) z r.terms o) (method_of added p m.value ws m.terms o)) (sym e)
    (behind f m.terms.graph to j.to_after _ _ j.further (method-agrees p m.value ws r.terms m.terms j.to_after o j.same j.inside k)))

told-of-agrees : (x : Option Value) (p : Place) (v : Value) (ws : List Written) (s f : Terms) (to : ℕ → ℕ) (o : Operation) → ((y : Value) → x ≡ Some y → IsIn f.graph y) → Same s f to → IsIn f.graph v → AllIn f.graph (worths ws)
    → AgreesValue f.graph to (told_of interned (option_map (renumbered to) x) p (renumbered to v) (map (moved_written to) ws) s o) (told_of added x p v ws f o)
told-of-agrees None p v ws s f to o h w i k = method-agrees p v ws s f to o w i k
told-of-agrees (Some y) p v ws s f to o h w i k =
    then-agrees of_value of_value (MeansValue f.graph to) (MeansValue f.graph to) (kept_where interned p (renumbered to v) (renumbered to y) s) (kept_where added p v y f) _ _
    (method-agrees p v (written None y ∷ []) s f to op.Where w i (h y refl, tt))
    (λ r m j. after-agrees p (without_mask (map (moved_written to) ws)) (without_mask ws) f.graph to r m o j
    (unmasked to ws ∙ sym (written-later f.graph m.terms.graph to j.to_after (without_mask ws) j.further (unmasked-in f.graph ws k)))
    (all-later f.graph m.terms.graph to j.to_after (worths (without_mask ws)) j.further (unmasked-in f.graph ws k)))
    (λ m. (_, method-adds p m.value (without_mask ws) m.terms o))

told-agrees : (p : Place) (v : Value) (ws : List Written) (s f : Terms) (to : ℕ → ℕ) (o : Operation) → Same s f to → IsIn f.graph v → AllIn f.graph (worths ws)
    → AgreesValue f.graph to (told_method interned p (renumbered to v) (map (moved_written to) ws) s o) (told_method added p v ws f o)
told-agrees p v ws s f to (op.Summarize t) w i k =
    subst (λ x. AgreesValue f.graph to (told_of interned x p (renumbered to v) (map (moved_written to) ws) s (op.Summarize t)) (told_method added p v ws f (op.Summarize t))) (sym (mask-moved to ws))
    (told-of-agrees (mask_in ws) p v ws s f to (op.Summarize t) (λ y e. mask-in-graph f.graph ws y e k) w i k)
told-agrees p v ws s f to o w i k = method-agrees p v ws s f to o w i k

asset-agrees : (p : Place) (v : Value) (ws : List Written) (s f : Terms) (to : ℕ → ℕ) → Same s f to → IsIn f.graph v → AllIn f.graph (worths ws)
    → AgreesValue f.graph to (one_asset interned p (renumbered to v) (map (moved_written to) ws) s) (one_asset added p v ws f)
asset-agrees p v [] s f to w i k = inr refl
asset-agrees p v (x ∷ (y ∷ ws)) s f to w i k = inr refl
asset-agrees p v (x ∷ []) s f to w i k =
    then-agrees of_value of_value (MeansValue f.graph to) (MeansValue f.graph to) (called interned p op.StaticSids [] (moved_written to x ∷ []) s) (called added p op.StaticSids [] (x ∷ []) f) _ _
    (called-agrees p op.StaticSids [] (x ∷ []) s f to w tt k)
    (λ q m j. subst (λ z. AgreesValue f.graph to (greatest_where interned p z q.value q.terms) (greatest_where added p v m.value m.terms)) (value-later f.graph m.terms.graph to j.to_after v j.further i)
    (subst (λ z. AgreesValue f.graph to (greatest_where interned p (renumbered j.to_after v) z q.terms) (greatest_where added p v m.value m.terms)) (sym j.is)
    (behind f.graph m.terms.graph to j.to_after _ _ j.further
    (then-agrees of_value of_value (MeansValue m.terms.graph j.to_after) (MeansValue m.terms.graph j.to_after) (kept_where interned p (renumbered j.to_after v) (renumbered j.to_after m.value) q.terms) (kept_where added p v m.value m.terms) _ _
    (method-agrees p v (written None m.value ∷ []) q.terms m.terms j.to_after op.Where j.same (in-later f.graph m.terms.graph to j.to_after v j.further i) (j.inside, tt))
    (λ r b t. after-agrees p [] [] m.terms.graph j.to_after r b (op.Summarize summary.Greatest) t refl tt)
    (λ b. (_, method-adds p b.value [] b.terms (op.Summarize summary.Greatest)))))))
    (λ m. (_, greatest-adds p v m))

-- ---- ages of numbers

-- the name is read off the node, which is of the same kind
name-agrees : (s f : Terms) (to : ℕ → ℕ) (v : Value) → Same s f to → IsIn f.graph v → number_named s (renumbered to v) ≡ number_named f v
name-agrees s f to (Factor t safe) w i =
    let m = stands f.graph t (i t refl) in
    let n = w.kinds t m.0 m.1 in
    ap name_or_none (
    ap (option_and_then (λ x. name_of_kind s.names x.kind)) n.1 ∙ ap (λ names. name_of_kind names n.0.kind) w.names ∙ ap (name_of_kind f.names) n.2
    ∙ sym (ap (option_and_then (λ x. name_of_kind f.names x.kind)) m.1)
    )
name-agrees s f to v w i = refl

-- a name, or what stands for none, is no term
name-plain : (f : Terms) (to : ℕ → ℕ) (v : Value) → (renumbered to (number_named f v) ≡ number_named f v) × IsIn f.graph (number_named f v)
name-plain f to (Factor t safe) = here (option_and_then (λ n. name_of_kind f.names n.kind) (slice_get f.graph t))
  where
    here : (o : Option (List ℕ)) → (renumbered to (name_or_none o) ≡ name_or_none o) × IsIn f.graph (name_or_none o)
    here None = (refl, λ k e. absurd (let no : None ≡ Some k = e in cc))
    here (Some n) = (refl, λ k e. absurd (let no : None ≡ Some k = e in cc))
name-plain f to v = (refl, λ k e. absurd (let no : None ≡ Some k = e in cc))

age-agrees : (p : Place) (v : Value) (ws : List Written) (s f : Terms) (to : ℕ → ℕ) → Same s f to → IsIn f.graph v → AllIn f.graph (worths ws)
    → AgreesValue f.graph to (aged interned p (renumbered to v) (map (moved_written to) ws) s) (aged added p v ws f)
age-agrees p v ws s f to w i k =
    let plain = name-plain f to v in
    subst (λ z. AgreesValue f.graph to (called interned p op.Age (bound parameter.Name z ∷ []) (map (moved_written to) ws) s) (aged added p v ws f)) (plain.0 ∙ sym (name-agrees s f to v w i))
    (called-agrees p op.Age (bound parameter.Name (number_named f v) ∷ []) ws s f to w (plain.1, tt) k)

named-method-agrees : (n : ℕ) (p : Place) (v : Value) (m : List ℕ) (ws : List Written) (s f : Terms) (to : ℕ → ℕ) → Same s f to → IsIn f.graph v → AllIn f.graph (worths ws)
    → AgreesValue f.graph to (method_named_of interned n p (renumbered to v) m (map (moved_written to) ws) s) (method_named_of added n p v m ws f)
named-method-agrees n p v m ws s f to w i k = here (names_one_asset n m) (names_age n m)
  where
    here : (a b : Bool)
        → AgreesValue f.graph to (cond a (one_asset interned p (renumbered to v) (map (moved_written to) ws) s) (cond b (aged interned p (renumbered to v) (map (moved_written to) ws) s) (or_fault UnknownName p (member_named n m) >>= λ o. told_method interned p (renumbered to v) (map (moved_written to) ws) s o)))
        (cond a (one_asset added p v ws f) (cond b (aged added p v ws f) (or_fault UnknownName p (member_named n m) >>= λ o. told_method added p v ws f o)))
    here true b = asset-agrees p v ws s f to w i k
    here false true = age-agrees p v ws s f to w i k
    here false false = looked-agrees of_value (MeansValue f.graph to) UnknownName p (member_named n m) _ _ (λ o. told-agrees p v ws s f to o w i k)

-- ---- names

abbrev pub moved_definition : (ℕ → ℕ) → Definition → Definition
moved_definition to d = record { name = d.name; value = renumbered to d.value }

abbrev pub DefinedIn : Graph → List Definition → Type 0
DefinedIn g ds = Each (λ d. IsIn g d.value) ds

pub defined-later : (f g : Graph) (to more : ℕ → ℕ) (ds : List Definition) → Further f g to more → DefinedIn f ds → DefinedIn g ds × (map (moved_definition more) ds ≡ map (moved_definition to) ds)
defined-later f g to more ds h i = (
  each_more _ _ ds (λ (d : Definition) k. in-later f g to more d.value h k) i,
  map_each (moved_definition more) (moved_definition to) ds (each_more _ _ ds (λ (d : Definition) k. ap (λ x. record { name = d.name; value = x }) (value-later f g to more d.value h k)) i),
)

pub defined-moved : (to : ℕ → ℕ) (ds : List Definition) (n : List ℕ) → defined (map (moved_definition to) ds) n ≡ option_map (renumbered to) (defined ds n)
unfolding defined
defined-moved to [] n = refl
defined-moved to (d ∷ ds) n = here (bytes_eq n d.name) (defined-moved to ds n)
  where
    here : (b : Bool) → defined (map (moved_definition to) ds) n ≡ option_map (renumbered to) (defined ds n) → cond b (Some (renumbered to d.value)) (defined (map (moved_definition to) ds) n) ≡ option_map (renumbered to) (cond b (Some d.value) (defined ds n))
    here true k = refl
    here false k = k

defined-in : (g : Graph) (ds : List Definition) (n : List ℕ) (v : Value) → DefinedIn g ds → defined ds n ≡ Some v → IsIn g v
unfolding defined
defined-in g [] n v a h = absurd (let no : None ≡ Some v = h in cc)
defined-in g (d ∷ ds) n v a h = here (bytes_eq n d.name) h (defined-in g ds n v a.1)
  where
    here : (b : Bool) → cond b (Some d.value) (defined ds n) ≡ Some v → (defined ds n ≡ Some v → IsIn g v) → IsIn g v
    here true e k = subst (IsIn g) (let s : Some d.value ≡ Some v = e in let q : d.value ≡ v = cc in q) a.0
    here false e k = k e

named-agrees : (p : Place) (ds : List Definition) (n : List ℕ) (s f : Terms) (to : ℕ → ℕ) → Same s f to → DefinedIn f.graph ds
    → AgreesValue f.graph to (or_fault UnknownName p (value_named (map (moved_definition to) ds) n) >>= λ x. Ok (found x s)) (or_fault UnknownName p (value_named ds n) >>= λ x. Ok (found x f))
named-agrees p ds n s f to w a = here (bar_column n)
  where
    inner : (o : Option Value) → defined ds n ≡ o → AgreesValue f.graph to (or_fault UnknownName p (option_map (renumbered to) o) >>= λ x. Ok (found x s)) (or_fault UnknownName p o >>= λ x. Ok (found x f))
    inner None e = inr refl
    inner (Some v) e = (_, refl, found-means s f to v _ w (defined-in f.graph ds n v a e) refl)

    here : (c : Option Column) → AgreesValue f.graph to (or_fault UnknownName p (typed.meant (map (moved_definition to) ds) n c) >>= λ x. Ok (found x s)) (or_fault UnknownName p (typed.meant ds n c) >>= λ x. Ok (found x f))
    here (Some c) = (_, refl, found-means s f to (Bars c) _ w (λ k e. absurd (let no : None ≡ Some k = e in cc)) refl)
    here None = subst (λ o. AgreesValue f.graph to (or_fault UnknownName p o >>= λ x. Ok (found x s)) (or_fault UnknownName p (defined ds n) >>= λ x. Ok (found x f))) (sym (defined-moved to ds n)) (inner (defined ds n) refl)

-- ---- expressions

-- arguments in both
abbrev MeansWritten : Graph → (ℕ → ℕ) → Found (List Written) → Found (List Written) → Type 0
MeansWritten f to x y = Means (λ g ws. AllIn g (worths ws)) (λ more ws. map (moved_written more) ws) f to x y

written-behind : (f g : Graph) (to more : ℕ → ℕ) (r q : Result (Found (List Written)) Broken) → Further f g to more → Agrees of_written (MeansWritten g more) r q → Agrees of_written (MeansWritten f to) r q
written-behind f g to more r q h a =
    weaker of_written (MeansWritten g more) (MeansWritten f to) r q (λ x y m. means-behind (λ g ws. AllIn g (worths ws)) (λ more ws. map (moved_written more) ws) f g to more x y h m) a

-- one argument more
argument-is : (f g : Graph) (to more : ℕ → ℕ) (ws : List Written) (n : Option (List ℕ)) (v x : Value) → Further f g to more → AllIn f (worths ws) → x ≡ renumbered more v
    → map (moved_written more) (ws ++ written n v ∷ []) ≡ map (moved_written to) ws ++ written n x ∷ []
argument-is f g to more ws n v x h i e =
    map-append (moved_written more) ws (written n v ∷ []) ∙ ap (λ xs. xs ++ moved_written more (written n v) ∷ []) (written-later f g to more ws h i) ∙ ap (λ y. map (moved_written to) ws ++ written n y ∷ []) (sym e)

argument-in : (f g : Graph) (to more : ℕ → ℕ) (ws : List Written) (n : Option (List ℕ)) (v : Value) → Further f g to more → AllIn f (worths ws) → IsIn g v → AllIn g (worths (ws ++ written n v ∷ []))
argument-in f g to more ws n v h i k =
    subst (AllIn g) (sym (map-append (λ (w : Written). w.value) ws (written n v ∷ []))) (each_both (IsIn g) (worths ws) (v ∷ []) (all-later f g to more (worths ws) h i) (k, tt))

-- both operands
both-agree : (p : Place) (sign : BinarySign) (f : Graph) (to : ℕ → ℕ) (l m r q : Found Value) (k : MeansValue f to l m) → MeansValue m.terms.graph k.to_after r q
    → AgreesValue f to (combined interned p sign l.value r.value r.terms) (combined added p sign m.value q.value q.terms)
both-agree p sign f to l m r q k j =
    let h = further-still f m.terms.graph q.terms.graph to k.to_after j.to_after k.further j.further in
    subst (λ z. AgreesValue f to (combined interned p sign z r.value r.terms) (combined added p sign m.value q.value q.terms)) (value-later m.terms.graph q.terms.graph k.to_after j.to_after m.value j.further k.inside ∙ sym k.is)
    (subst (λ z. AgreesValue f to (combined interned p sign (renumbered j.to_after m.value) z r.terms) (combined added p sign m.value q.value q.terms)) (sym j.is)
    (behind f q.terms.graph to j.to_after _ _ h
    (combined-agrees p sign m.value q.value r.terms q.terms j.to_after j.same (in-later m.terms.graph q.terms.graph k.to_after j.to_after m.value j.further k.inside) j.inside)))

object-and-arguments : (v : ℕ) (p : Place) (n : List ℕ) (f : Graph) (to : ℕ → ℕ) (r m : Found Value) (q b : Found (List Written)) (k : MeansValue f to r m) → MeansWritten m.terms.graph k.to_after q b
    → AgreesValue f to (method_named_of interned v p r.value n q.value q.terms) (method_named_of added v p m.value n b.value b.terms)
object-and-arguments v p n f to r m q b k j =
    let h = further-still f m.terms.graph b.terms.graph to k.to_after j.to_after k.further j.further in
    subst (λ z. AgreesValue f to (method_named_of interned v p z n q.value q.terms) (method_named_of added v p m.value n b.value b.terms)) (value-later m.terms.graph b.terms.graph k.to_after j.to_after m.value j.further k.inside ∙ sym k.is)
    (subst (λ z. AgreesValue f to (method_named_of interned v p (renumbered j.to_after m.value) n z q.terms) (method_named_of added v p m.value n b.value b.terms)) (sym j.is)
    (behind f b.terms.graph to j.to_after _ _ h
    (named-method-agrees v p m.value n b.value q.terms b.terms j.to_after j.same (in-later m.terms.graph b.terms.graph k.to_after j.to_after m.value j.further k.inside) j.inside)))

mutual
  unfolding worth args_worth

  pub worth-agrees : (v : ℕ) (ds es : List Definition) (e : Tree) (s f : Terms) (to : ℕ → ℕ) → Same s f to → DefinedIn f.graph ds → es ≡ map (moved_definition to) ds → AgreesValue f.graph to (worth interned v es e s) (worth added v ds e f)
  worth-agrees v ds es (number p n) s f to w a d = (_, refl, found-means s f to (Number n) _ w (λ k e. absurd (let no : None ≡ Some k = e in cc)) refl)
  worth-agrees v ds es (text p t) s f to w a d = (_, refl, found-means s f to (Text t) _ w (λ k e. absurd (let no : None ≡ Some k = e in cc)) refl)
  worth-agrees v ds es (name p n) s f to w a d =
      subst (λ xs. AgreesValue f.graph to (or_fault UnknownName p (value_named xs n) >>= λ x. Ok (found x s)) (or_fault UnknownName p (value_named ds n) >>= λ x. Ok (found x f))) (sym d) (named-agrees p ds n s f to w a)
  worth-agrees v ds es (call p n ps) s f to w a d =
      then-agrees of_written of_value (MeansWritten f.graph to) (MeansValue f.graph to) (args_worth interned v es [] ps s) (args_worth added v ds [] ps f) _ _
      (args-agree v ds es [] [] ps s f to w a d tt refl)
      (λ r m k. subst (λ x. AgreesValue f.graph to (function_called interned v p n x r.terms) (function_called added v p n m.value m.terms)) (sym k.is)
      (looked-agrees of_value (MeansValue f.graph to) UnknownName p (function_named v n) _ _ (λ o. behind f.graph m.terms.graph to k.to_after _ _ k.further (called-agrees p o [] m.value r.terms m.terms k.to_after k.same tt k.inside))))
      (λ m. (_, function-adds v p n m.value m.terms))
  worth-agrees v ds es (prefix p sign e) s f to w a d =
      then-agrees of_value of_value (MeansValue f.graph to) (MeansValue f.graph to) (worth interned v es e s) (worth added v ds e f) _ _ (worth-agrees v ds es e s f to w a d)
      (λ r m k. subst (λ x. AgreesValue f.graph to (prefixed interned p sign x r.terms) (prefixed added p sign m.value m.terms)) (sym k.is)
      (behind f.graph m.terms.graph to k.to_after _ _ k.further (prefixed-agrees p sign m.value r.terms m.terms k.to_after k.same k.inside)))
      (λ m. (_, prefixed-adds p sign m.value m.terms))
  worth-agrees v ds es (binary p sign x y) s f to w a d =
      then-agrees of_value of_value (MeansValue f.graph to) (MeansValue f.graph to) (worth interned v es x s) (worth added v ds x f) _ _ (worth-agrees v ds es x s f to w a d)
      (λ l m k.
      let b = defined-later f.graph m.terms.graph to k.to_after ds k.further a in
      then-agrees of_value of_value (MeansValue m.terms.graph k.to_after) (MeansValue f.graph to) (worth interned v es y l.terms) (worth added v ds y m.terms) _ _
      (worth-agrees v ds es y l.terms m.terms k.to_after k.same b.0 (d ∙ sym b.1))
      (λ r q j. both-agree p sign f.graph to l m r q k j)
      (λ q. (_, combined-adds p sign m.value q.value q.terms)))
      (λ m. (_, then-adds of_value of_value _ _ m.terms.graph (worth added v ds y m.terms) _ (worth-adds v ds y m.terms) (λ q. combined-adds p sign m.value q.value q.terms)))
  worth-agrees v ds es (member p e n) s f to w a d =
      then-agrees of_value of_value (MeansValue f.graph to) (MeansValue f.graph to) (worth interned v es e s) (worth added v ds e f) _ _ (worth-agrees v ds es e s f to w a d)
      (λ r m k. subst (λ x. AgreesValue f.graph to (member_named_of interned v p x n r.terms) (member_named_of added v p m.value n m.terms)) (sym k.is)
      (looked-agrees of_value (MeansValue f.graph to) UnknownName p (member_named v n) _ _ (λ o. behind f.graph m.terms.graph to k.to_after _ _ k.further (member-agrees p m.value r.terms m.terms k.to_after o k.same k.inside))))
      (λ m. (_, member-adds v p m.value n m.terms))
  worth-agrees v ds es (method p e n ps) s f to w a d =
      then-agrees of_value of_value (MeansValue f.graph to) (MeansValue f.graph to) (worth interned v es e s) (worth added v ds e f) _ _ (worth-agrees v ds es e s f to w a d)
      (λ r m k.
      let b = defined-later f.graph m.terms.graph to k.to_after ds k.further a in
      then-agrees of_written of_value (MeansWritten m.terms.graph k.to_after) (MeansValue f.graph to) (args_worth interned v es [] ps r.terms) (args_worth added v ds [] ps m.terms) _ _
      (args-agree v ds es [] [] ps r.terms m.terms k.to_after k.same b.0 (d ∙ sym b.1) tt refl)
      (λ q c j. object-and-arguments v p n f.graph to r m q c k j)
      (λ c. (_, named-adds v p m.value n c.value c.terms)))
      (λ m. (_, then-adds of_written of_value _ _ m.terms.graph (args_worth added v ds [] ps m.terms) _ (args-add v ds [] ps m.terms) (λ c. named-adds v p m.value n c.value c.terms)))

  pub args-agree : (v : ℕ) (ds es : List Definition) (ws xs : List Written) (ps : Args) (s f : Terms) (to : ℕ → ℕ) → Same s f to → DefinedIn f.graph ds → es ≡ map (moved_definition to) ds → AllIn f.graph (worths ws) → xs ≡ map (moved_written to) ws
      → Agrees of_written (MeansWritten f.graph to) (args_worth interned v es xs ps s) (args_worth added v ds ws ps f)
  args-agree v ds es ws xs no_args s f to w a d i h = (_, refl, record { to_after = to; further = further-same f.graph to; inside = i; is = h; same = w })
  args-agree v ds es ws xs (arg n e ps) s f to w a d i h =
      then-agrees of_value of_written (MeansValue f.graph to) (MeansWritten f.graph to) (worth interned v es e s) (worth added v ds e f) _ _ (worth-agrees v ds es e s f to w a d)
      (λ r m k.
      let b = defined-later f.graph m.terms.graph to k.to_after ds k.further a in
      written-behind f.graph m.terms.graph to k.to_after _ _ k.further
      (args-agree v ds es (ws ++ written n m.value ∷ []) (xs ++ written n r.value ∷ []) ps r.terms m.terms k.to_after k.same b.0 (d ∙ sym b.1)
      (argument-in f.graph m.terms.graph to k.to_after ws n m.value k.further i k.inside)
      (ap (λ z. z ++ written n r.value ∷ []) h ∙ sym (argument-is f.graph m.terms.graph to k.to_after ws n m.value r.value k.further i k.is))))
      (λ m. (_, args-add v ds (ws ++ written n m.value ∷ []) ps m.terms))
