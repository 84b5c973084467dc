-- What an expression is worth after one of its parts, and where the part has a fault.
use Rattle.std.proofs.Common.{◌≡◌, ℕ, List, [], Option, Some, None, Result, Ok, Box, Global, sym, ap, subst, ◌∙◌}
use Rattle.pl_grammar.specs.declared.Place.{Place}
use Rattle.pl_grammar.specs.declared.PrefixSign.{PrefixSign}
use Rattle.pl_grammar.specs.declared.BinarySign.{BinarySign}
use Rattle.pl_grammar.specs.Tree.{Args, call}
use Rattle.pl_syntax.specs.Plain.{plain, tree_of, args_tree}
use Rattle.pl_syntax.specs.declared.tree.ArgList.{ArgList}
use Rattle.pl_syntax.specs.declared.tree.Expr.{Expr}
use Rattle.pl_syntax.specs.declared.tree.ExprNode.{ExprNode}
use Rattle.pl_syntax.specs.declared.tree.ExprNode.TheVariants as node
use Rattle.pl_terms.specs.Nodes.{interned}
use Rattle.pl_check.specs.declared.fault.CheckError.{CheckError}
use Rattle.pl_check.specs.declared.fault.CheckError.TheVariants as errors
use Rattle.pl_check.specs.declared.terms.Terms as declared
use Rattle.pl_check.specs.declared.value.Value as code
use Rattle.pl_check.specs.Seen.{value_of}
use Rattle.pl_check.specs.Answers.{Fails, Finds}
use Rattle.pl_check.specs.Faults.{Broken, ◌>>=◌}
use Rattle.pl_check.specs.Rules.{Written}
use Rattle.pl_check.specs.Values.{Value}
use Rattle.pl_check.specs.Typed.{Terms, Found, found, Definition, prefixed, combined, member_named_of, method_named_of, function_called, worth, args_worth, method_worth}

-- a fault of a part is the whole's
pub fails-then : {A B : Type 0} (e : CheckError) (o : Result A Broken) (f : A → Result B Broken) → Fails e o → Fails e (o >>= f)
fails-then errors.Memory o f h = tt
fails-then (errors.Fault k p) o f h = ap (λ r. r >>= f) h

-- a node, and its parts as the code lends them
module _ (v : ℕ) (ds : List Definition) (p : Place) (s : Terms) where
  pub prefix-fails : (e : CheckError) {n : ExprNode} {sign : PrefixSign} {x : Box Expr Global} {y : Expr} → n ≡ node.Prefix sign x → y ≡ x.value → Fails e (worth interned v ds (plain y) s) → Fails e (worth interned v ds (tree_of n p) s)
  unfolding worth
  prefix-fails e {sign = sign} {x = x} is lent h =
      subst (λ m. Fails e (worth interned v ds (tree_of m p) s)) (sym is)
      (fails-then e (worth interned v ds (plain x.value) s) (λ r. prefixed interned p sign r.value r.terms) (subst (λ (z : Expr). Fails e (worth interned v ds (plain z) s)) lent h))

  pub prefix-finds : {n : ExprNode} {sign : PrefixSign} {x : Box Expr Global} {y : Expr} {a : Value} {t : Terms} (after : declared.Terms) (r : Result code.Value CheckError) → n ≡ node.Prefix sign x → y ≡ x.value
      → worth interned v ds (plain y) s ≡ Ok (found a t) → Finds value_of after r (prefixed interned p sign a t) → Finds value_of after r (worth interned v ds (tree_of n p) s)
  unfolding worth
  prefix-finds {sign = sign} after r is lent h k =
      subst (λ o. Finds value_of after r o)
      (sym (ap (λ m. worth interned v ds (tree_of m p) s) is ∙ ap (λ o. o >>= λ q. prefixed interned p sign q.value q.terms) (sym (ap (λ (z : Expr). worth interned v ds (plain z) s) lent) ∙ h))) k

  pub left-fails : (e : CheckError) {n : ExprNode} {sign : BinarySign} {x z : Box Expr Global} {y : Expr} → n ≡ node.Binary sign x z → y ≡ x.value → Fails e (worth interned v ds (plain y) s) → Fails e (worth interned v ds (tree_of n p) s)
  unfolding worth
  left-fails e {sign = sign} {x = x} {z = z} is lent h =
      subst (λ m. Fails e (worth interned v ds (tree_of m p) s)) (sym is)
      (fails-then e (worth interned v ds (plain x.value) s) (λ l. worth interned v ds (plain z.value) l.terms >>= λ r. combined interned p sign l.value r.value r.terms) (subst (λ (u : Expr). Fails e (worth interned v ds (plain u) s)) lent h))

  -- what is left after the left operand
  left-is : {n : ExprNode} {sign : BinarySign} {x z : Box Expr Global} {y u : Expr} {a : Value} {t : Terms} → n ≡ node.Binary sign x z → y ≡ x.value → u ≡ z.value → worth interned v ds (plain y) s ≡ Ok (found a t)
      → worth interned v ds (tree_of n p) s ≡ (worth interned v ds (plain u) t >>= λ r. combined interned p sign a r.value r.terms)
  unfolding worth
  left-is {sign = sign} {z = z} {a = a} {t = t} is left right h =
      ap (λ m. worth interned v ds (tree_of m p) s) is
      ∙ ap (λ o. o >>= λ l. worth interned v ds (plain z.value) l.terms >>= λ r. combined interned p sign l.value r.value r.terms) (sym (ap (λ (w : Expr). worth interned v ds (plain w) s) left) ∙ h)
      ∙ ap (λ (w : Expr). worth interned v ds (plain w) t >>= λ r. combined interned p sign a r.value r.terms) (sym right)

  pub right-fails : (e : CheckError) {n : ExprNode} {sign : BinarySign} {x z : Box Expr Global} {y u : Expr} {a : Value} {t : Terms} → n ≡ node.Binary sign x z → y ≡ x.value → u ≡ z.value
      → worth interned v ds (plain y) s ≡ Ok (found a t) → Fails e (worth interned v ds (plain u) t) → Fails e (worth interned v ds (tree_of n p) s)
  right-fails e {sign = sign} {u = u} {a = a} {t = t} is left right hx h =
      subst (λ (o : Result (Found Value) Broken). Fails e o) (sym (left-is is left right hx)) (fails-then e (worth interned v ds (plain u) t) (λ r. combined interned p sign a r.value r.terms) h)

  pub binary-finds : {n : ExprNode} {sign : BinarySign} {x z : Box Expr Global} {y u : Expr} {a b : Value} {t q : Terms} (after : declared.Terms) (r : Result code.Value CheckError) → n ≡ node.Binary sign x z → y ≡ x.value → u ≡ z.value
      → worth interned v ds (plain y) s ≡ Ok (found a t) → worth interned v ds (plain u) t ≡ Ok (found b q) → Finds value_of after r (combined interned p sign a b q) → Finds value_of after r (worth interned v ds (tree_of n p) s)
  binary-finds {sign = sign} {a = a} after r is left right hx hy k =
      subst (λ o. Finds value_of after r o) (sym (left-is is left right hx ∙ ap (λ o. o >>= λ w. combined interned p sign a w.value w.terms) hy)) k

  pub object-fails : (e : CheckError) {n : ExprNode} {x : Box Expr Global} {m : List ℕ} (args : Option ArgList) {y : Expr} → n ≡ node.Member x m args → y ≡ x.value → Fails e (worth interned v ds (plain y) s) → Fails e (worth interned v ds (tree_of n p) s)
  unfolding worth
  object-fails e {x = x} {m = m} args is lent h =
      subst (λ k. Fails e (worth interned v ds (tree_of k p) s)) (sym is) (here args (subst (λ (z : Expr). Fails e (worth interned v ds (plain z) s)) lent h))
    where
      here : (o : Option ArgList) → Fails e (worth interned v ds (plain x.value) s) → Fails e (worth interned v ds (tree_of (node.Member x m o) p) s)
      here None f = fails-then e (worth interned v ds (plain x.value) s) (λ r. member_named_of interned v p r.value m r.terms) f
      here (Some ps) f = fails-then e (worth interned v ds (plain x.value) s) (λ r. args_worth interned v ds [] (args_tree ps) r.terms >>= λ q. method_named_of interned v p r.value m q.value q.terms) f

  pub member-finds : {n : ExprNode} {x : Box Expr Global} {m : List ℕ} (args : Option ArgList) {y : Expr} {a : Value} {t : Terms} (after : declared.Terms) (r : Result code.Value CheckError) → n ≡ node.Member x m args → args ≡ None → y ≡ x.value
      → worth interned v ds (plain y) s ≡ Ok (found a t) → Finds value_of after r (member_named_of interned v p a m t) → Finds value_of after r (worth interned v ds (tree_of n p) s)
  unfolding worth
  member-finds {x = x} {m = m} args after r is none lent h k =
      subst (λ o. Finds value_of after r o)
      (sym (ap (λ k. worth interned v ds (tree_of k p) s) (is ∙ ap (λ o. node.Member x m o) none) ∙ ap (λ o. o >>= λ q. member_named_of interned v p q.value m q.terms) (sym (ap (λ (z : Expr). worth interned v ds (plain z) s) lent) ∙ h))) k

  pub list-finds : {n : ExprNode} {x : Box Expr Global} {m : List ℕ} (args : Option ArgList) {ps : ArgList} {y : Expr} {a : Value} {t : Terms} (after : declared.Terms) (r : Result code.Value CheckError) → n ≡ node.Member x m args → args ≡ Some ps → y ≡ x.value
      → worth interned v ds (plain y) s ≡ Ok (found a t) → Finds value_of after r (method_worth interned v ds p a m (args_tree ps) t) → Finds value_of after r (worth interned v ds (tree_of n p) s)
  unfolding worth
  list-finds {x = x} {m = m} args {ps = ps} after r is some lent h k =
      subst (λ o. Finds value_of after r o)
      (sym (ap (λ k. worth interned v ds (tree_of k p) s) (is ∙ ap (λ o. node.Member x m o) some)
      ∙ ap (λ o. o >>= λ q. method_worth interned v ds p q.value m (args_tree ps) q.terms) (sym (ap (λ (z : Expr). worth interned v ds (plain z) s) lent) ∙ h))) k

  pub call-fails : (e : CheckError) (f : List ℕ) (ps : Args) → Fails e (args_worth interned v ds [] ps s) → Fails e (worth interned v ds (call p f ps) s)
  unfolding worth
  call-fails e f ps h = fails-then e (args_worth interned v ds [] ps s) (λ r. function_called interned v p f r.value r.terms) h

  pub call-finds : (f : List ℕ) (ps : Args) {ws : List Written} {t : Terms} (after : declared.Terms) (r : Result code.Value CheckError) → args_worth interned v ds [] ps s ≡ Ok (found ws t)
      → Finds value_of after r (function_called interned v p f ws t) → Finds value_of after r (worth interned v ds (call p f ps) s)
  unfolding worth
  call-finds f ps after r h k = subst (λ o. Finds value_of after r o) (sym (ap (λ o. o >>= λ q. function_called interned v p f q.value q.terms) h)) k
