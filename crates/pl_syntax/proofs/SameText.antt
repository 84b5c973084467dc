-- Scripts are the same, places aside, exactly where their canonical texts are.
use Rattle.std.proofs.Common.{◌≡◌, ℕ, Bool, true, false, List, [], ◌∷◌, ◌++◌, refl, sym, ap, ◌∙◌, subst}
use Rattle.std.specs.Prelude.{nat_le, codes}
use Rattle.std.specs.Str.{bytes_eq}
use Rattle.std.specs.Bool.{Decides}
use Rattle.std.proofs.lemmas.Slice.Eq.{bytes_eq-Decides}
use Rattle.pl_grammar.specs.Tree.{Tree, number, text, name, call, prefix, binary, member, method, Args, no_args, arg, prefix_level, left_level, right_level}
use Rattle.pl_grammar.specs.Printed.{tree_level}
use Rattle.pl_grammar.specs.Places.{bare, bare_args}
use Rattle.pl_grammar.specs.Script.{Head, LetHead, ColumnHead, ScreenHead, Statement}
use Rattle.pl_grammar.specs.Whole.{bare_head, bare_script}
use Rattle.pl_syntax.specs.Canonical.{prefix_text, binary_text, placed_text, comma_text, name_text, in_parentheses, tree_text, list_text, head_text, statement_text, statements_text, version_text, script_text}
use Rattle.pl_syntax.specs.Scripts.{version_in, statements_in, parsed, printed_text}
use Rattle.pl_syntax.specs.Spells.{SameScript, Spells}
use Rattle.pl_syntax.specs.Statements.{statements_of}
use Rattle.pl_syntax.specs.declared.script.Script.{Script}
use Rattle.pl_syntax.proofs.Printing.{printed_again}

bare_level : (e : Tree) → tree_level (bare e) ≡ tree_level e
unfolding bare
bare_level (number p v) = refl
bare_level e = refl

operand : (l : ℕ) (e : Tree) → tree_text (bare e) ≡ tree_text e → placed_text (nat_le l (tree_level (bare e))) (tree_text (bare e)) ≡ placed_text (nat_le l (tree_level e)) (tree_text e)
operand l e h = ap (λ k. placed_text (nat_le l k) (tree_text (bare e))) (bare_level e) ∙ ap (placed_text (nat_le l (tree_level e))) h

mutual
  unfolding bare tree_text

  bare_text : (e : Tree) → tree_text (bare e) ≡ tree_text e
  bare_text (call p n ps) = ap (λ z. n ++ in_parentheses z) (bare_list true ps)
  bare_text (prefix p s e) = ap (λ z. prefix_text s ++ z) (operand (prefix_level s) e (bare_text e))
  bare_text (binary p o a b) =
      ap (λ z. z ++ (binary_text o ++ placed_text (nat_le (right_level o) (tree_level (bare b))) (tree_text (bare b)))) (operand (left_level o) a (bare_text a))
      ∙ ap (λ z. placed_text (nat_le (left_level o) (tree_level a)) (tree_text a) ++ (binary_text o ++ z)) (operand (right_level o) b (bare_text b))
  bare_text (member p e n) = ap (λ z. z ++ (codes "." ++ n)) (operand 8 e (bare_text e))
  bare_text (method p e n ps) =
      ap (λ z. z ++ (codes "." ++ (n ++ in_parentheses (list_text true (bare_args ps))))) (operand 8 e (bare_text e))
      ∙ ap (λ z. placed_text (nat_le 8 (tree_level e)) (tree_text e) ++ (codes "." ++ (n ++ in_parentheses z))) (bare_list true ps)
  bare_text e = refl

  bare_list : (first : Bool) (ps : Args) → list_text first (bare_args ps) ≡ list_text first ps
  bare_list first no_args = refl
  bare_list first (arg n e ps) =
      ap (λ z. comma_text first ++ (name_text n ++ (z ++ list_text false (bare_args ps)))) (bare_text e)
      ∙ ap (λ z. comma_text first ++ (name_text n ++ (tree_text e ++ z))) (bare_list false ps)

head_same : (h : Head) → head_text (bare_head h) ≡ head_text h
head_same (ScreenHead p) = refl
head_same h = refl

bare_statements : (ss : List Statement) → statements_text (bare_script ss) ≡ statements_text ss
unfolding bare_script statements_text
bare_statements [] = refl
bare_statements (s ∷ ss) =
    ap (λ z. (z ++ (tree_text (bare s.tree) ++ codes ";\n")) ++ statements_text (bare_script ss)) (head_same s.head)
    ∙ (ap (λ z. (head_text s.head ++ (z ++ codes ";\n")) ++ statements_text (bare_script ss)) (bare_text s.tree)
    ∙ ap (λ z. statement_text s ++ z) (bare_statements ss))

same_text : (n : ℕ) (a b : List Statement) → bare_script a ≡ bare_script b → script_text n a ≡ script_text n b
unfolding script_text
same_text n a b h = ap (λ z. version_text n ++ z) (sym (bare_statements a) ∙ (ap statements_text h ∙ bare_statements b))

same_script : (a b : Script) → printed_text a ≡ printed_text b → SameScript (parsed a) (parsed b)
same_script a b e =
    let x = printed_again a in
    let y = printed_again b in
    let z = y.only x.script (subst (λ z. Spells z x.script) e x.spells) in
    record { version = sym x.same.version ∙ z.version; statements = sym x.same.statements ∙ z.statements }

-- the canonical texts of scripts are the same exactly where the scripts are
pub text_decides : (a b : Script) → Decides (bytes_eq (printed_text a) (printed_text b)) (SameScript (parsed a) (parsed b))
text_decides a b =
    let t = bytes_eq-Decides (printed_text a) (printed_text b) in
    let xs = statements_of (statements_in a) in
    let ys = statements_of (statements_in b) in (
      λ e. same_script a b (t.0 e),
      λ e. t.1 (same_text (version_in a) xs ys e.statements ∙ ap (λ n. script_text n ys) e.version),
    )
