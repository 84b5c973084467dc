-- The text of arguments, one after another.
use Rattle.std.proofs.Common.{◌≡◌, ℕ, suc, ◌+◌, ◌<◌, ◌≤◌, Bool, true, false, List, [], ◌∷◌, ◌++◌, length, drop, get_or, refl, sym, ap, ◌∙◌, arith, append_assoc, drop-cons}
use Rattle.std.specs.Prelude.{codes}
use Rattle.std.proofs.lemmas.List.{drop_all}
use Rattle.pl_grammar.specs.Machine as m
use Rattle.pl_syntax.specs.Frames.{args_list}
use Rattle.pl_syntax.specs.Plain.{plain, args_tree}
use Rattle.pl_syntax.specs.Rows.{args_of}
use Rattle.pl_syntax.specs.Canonical.{comma_text, name_text, tree_text, list_text, args_text}
use Rattle.pl_syntax.specs.declared.tree.Arg.{Arg}
use Rattle.pl_syntax.specs.declared.tree.ArgList.{ArgList}
use Rattle.pl_syntax.proofs.Pushed.{list_tree}

abbrev pub items_text : Bool → List Arg → List ℕ
items_text first xs = list_text first (m.args_of (args_list xs))

one_text : (first : Bool) (a : Arg) (xs : List Arg) → items_text first (a ∷ xs) ≡ comma_text first ++ (name_text a.name ++ (tree_text (plain a.expr) ++ items_text false xs))
unfolding list_text
one_text first a xs = refl

no_text : (first : Bool) → items_text first [] ≡ []
unfolding list_text
no_text first = refl

next_text : (first : Bool) (xs : List Arg) (i : ℕ) (a : Arg) → i < length xs → a ≡ get_or xs i a → items_text first (drop i xs) ≡ comma_text first ++ (name_text a.name ++ (tree_text (plain a.expr) ++ items_text false (drop (i + 1) xs)))
next_text first xs i a h e =
    let n : suc i ≡ i + 1 = omega arith in
    ap (items_text first) (drop-cons xs i a h)
    ∙ (ap (λ z. items_text first (z ∷ drop (suc i) xs)) (sym e) ∙ (ap (λ k. items_text first (a ∷ drop k xs)) n ∙ one_text first a (drop (i + 1) xs)))

pub more_text : (first : Bool) (xs : List Arg) (i : ℕ) (a : Arg) (before commas names after end all : List ℕ) → i < length xs → a ≡ get_or xs i a → commas ≡ before ++ comma_text first → names ≡ commas ++ name_text a.name → after ≡ names ++ tree_text (plain a.expr) → before ++ (items_text first (drop i xs) ++ end) ≡ all → after ++ (items_text false (drop (i + 1) xs) ++ end) ≡ all
more_text first xs i a before commas names after end all h e c n t k =
    let rest = items_text false (drop (i + 1) xs) in
    ap (λ z. z ++ (rest ++ end)) (t ∙ ap (λ z. z ++ tree_text (plain a.expr)) (n ∙ ap (λ z. z ++ name_text a.name) c))
    ∙ (regrouped before (comma_text first) (name_text a.name) (tree_text (plain a.expr)) rest end
    ∙ (ap (λ z. before ++ (z ++ end)) (sym (next_text first xs i a h e)) ∙ k))
  where
    regrouped : (o c n t r d : List ℕ) → (((o ++ c) ++ n) ++ t) ++ (r ++ d) ≡ o ++ ((c ++ (n ++ (t ++ r))) ++ d)
    regrouped o c n t r d = simp append_assoc refl

pub begun_text : (l : ArgList) (xs : List Arg) (before out : List ℕ) → xs ≡ args_of l → out ≡ before ++ codes "(" → out ++ (items_text true xs ++ codes ")") ≡ before ++ args_text (args_tree l)
begun_text l xs before out e k =
    ap (λ z. z ++ (items_text true xs ++ codes ")")) k
    ∙ (append_assoc before (codes "(") (items_text true xs ++ codes ")")
    ∙ ap (λ y. before ++ (codes "(" ++ (list_text true y ++ codes ")"))) (ap (λ z. m.args_of (args_list z)) e ∙ sym (list_tree l)))

pub ended_text : (first : Bool) (xs : List Arg) (i : ℕ) (out end all : List ℕ) → length xs ≤ i → out ++ (items_text first (drop i xs) ++ end) ≡ all → out ++ end ≡ all
ended_text first xs i out end all h k = ap (λ z. out ++ (z ++ end)) (sym (ap (items_text first) (drop_all i xs h) ∙ no_text first)) ∙ k
