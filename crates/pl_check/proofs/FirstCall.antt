-- The first call of `number` among calls one after another.
use Rattle.std.proofs.Common.{◌≡◌, ℕ, ◌≤◌, ◌-◌, List, ◌++◌, Box, Global, length, get_or, take, drop, Option, Some, None, ap, ◌∙◌, sym, refl}
use Rattle.std.specs.Prelude.{option_map}
use Rattle.std.specs.Option.{option_or}
use Rattle.std.specs.List.{find}
use Rattle.std.proofs.lemmas.List.Folds.{find-append}
use Rattle.pl_grammar.specs.declared.Place.{Place}
use Rattle.pl_grammar.specs.Machine.{args_of}
use Rattle.pl_syntax.specs.Frames.{args_list}
use Rattle.pl_syntax.specs.Plain.{plain, tree_of, args_tree}
use Rattle.pl_syntax.specs.Statements.{statement_of, statements_of}
use Rattle.pl_syntax.specs.declared.script.Statement.{Statement}
use Rattle.pl_syntax.specs.declared.tree.Arg.{Arg}
use Rattle.pl_syntax.specs.declared.tree.ArgList.{ArgList}
use Rattle.pl_syntax.specs.declared.tree.Expr.{Expr}
use Rattle.pl_syntax.specs.declared.tree.ExprNode.TheVariants as node
use Rattle.pl_check.specs.Numbered.{Call, calls, calls_among, statement_calls, is_number, first_place}
use Rattle.pl_check.proofs.Ready.{split-first}

pub first-of-some : (xs ys : List Call) (p : Place) → Some p ≡ first_place xs → Some p ≡ first_place (xs ++ ys)
first-of-some xs ys p h = here (find is_number xs) h ∙ sym (ap (option_map (λ (c : Call). c.place)) (find-append is_number xs ys))
  where
    here : (o : Option Call) → Some p ≡ option_map (λ (c : Call). c.place) o → Some p ≡ option_map (λ (c : Call). c.place) (option_or o (find is_number ys))
    here (Some c) e = e
    here None e = absurd (let no : Some p ≡ None = e in cc)

pub first-of-none : (xs ys : List Call) → None ≡ first_place xs → first_place ys ≡ first_place (xs ++ ys)
first-of-none xs ys h = here (find is_number xs) h ∙ sym (ap (option_map (λ (c : Call). c.place)) (find-append is_number xs ys))
  where
    here : (o : Option Call) → None ≡ option_map (λ (c : Call). c.place) o → first_place ys ≡ option_map (λ (c : Call). c.place) (option_or o (find is_number ys))
    here None e = refl
    here (Some c) e = absurd (let no : None ≡ Some c.place = e in cc)

-- the first of arguments, and those after it
pub arg-some : (xs : List Arg) (x : Arg) (p : Place) → 1 ≤ length xs → x ≡ get_or xs 0 x → Some p ≡ first_place (calls (plain x.expr)) → Some p ≡ first_place (calls_among (args_of (args_list xs)))
unfolding calls calls_among
arg-some xs x p h e k =
    first-of-some (calls (plain x.expr)) (calls_among (args_of (args_list (take (length xs - 1) (drop 1 xs))))) p k ∙ sym (ap (λ ys. first_place (calls_among (args_of (args_list ys)))) (split-first xs x h e))

pub arg-none : (xs : List Arg) (x : Arg) → 1 ≤ length xs → x ≡ get_or xs 0 x → None ≡ first_place (calls (plain x.expr))
    → first_place (calls_among (args_of (args_list (take (length xs - 1) (drop 1 xs))))) ≡ first_place (calls_among (args_of (args_list xs)))
unfolding calls calls_among
arg-none xs x h e k =
    first-of-none (calls (plain x.expr)) (calls_among (args_of (args_list (take (length xs - 1) (drop 1 xs))))) k ∙ sym (ap (λ ys. first_place (calls_among (args_of (args_list ys)))) (split-first xs x h e))

-- an object, and the arguments after it
pub member-some : (o : Box Expr Global) (n : List ℕ) (a : Option ArgList) (p q : Place) → Some q ≡ first_place (calls (plain o.value)) → Some q ≡ first_place (calls (tree_of (node.Member o n a) p))
unfolding calls calls_among
member-some o n None p q h = h
member-some o n (Some ps) p q h = first-of-some (calls (plain o.value)) (calls_among (args_tree ps)) q h

pub member-list : (o : Box Expr Global) (n : List ℕ) (a : Option ArgList) (ps : ArgList) (p : Place) → a ≡ Some ps → None ≡ first_place (calls (plain o.value))
    → first_place (calls_among (args_tree ps)) ≡ first_place (calls (tree_of (node.Member o n a) p))
unfolding calls calls_among
member-list o n None ps p e h = absurd (let no : None ≡ Some ps = e in cc)
member-list o n (Some qs) ps p e h =
    let same : qs ≡ ps = (let q : Some qs ≡ Some ps = e in cc) in
    ap (λ x. first_place (calls_among (args_tree x))) (sym same) ∙ first-of-none (calls (plain o.value)) (calls_among (args_tree qs)) h

-- the first of statements, and those after it
pub stated-some : (xs : List Statement) (x : Statement) (p : Place) → 1 ≤ length xs → x ≡ get_or xs 0 x → Some p ≡ first_place (calls (statement_of x).tree) → Some p ≡ first_place (statement_calls (statements_of xs))
unfolding statement_calls
stated-some xs x p h e k =
    first-of-some (calls (statement_of x).tree) (statement_calls (statements_of (take (length xs - 1) (drop 1 xs)))) p k ∙ sym (ap (λ ys. first_place (statement_calls (statements_of ys))) (split-first xs x h e))

pub stated-none : (xs : List Statement) (x : Statement) → 1 ≤ length xs → x ≡ get_or xs 0 x → None ≡ first_place (calls (statement_of x).tree)
    → first_place (statement_calls (statements_of (take (length xs - 1) (drop 1 xs)))) ≡ first_place (statement_calls (statements_of xs))
unfolding statement_calls
stated-none xs x h e k =
    first-of-none (calls (statement_of x).tree) (statement_calls (statements_of (take (length xs - 1) (drop 1 xs)))) k ∙ sym (ap (λ ys. first_place (statement_calls (statements_of ys))) (split-first xs x h e))
