-- The text of an operator or a method, written piece by piece.
use Rattle.std.proofs.Common.{◌≡◌, ℕ, List, ◌++◌, refl, append_assoc}
use Rattle.std.specs.Prelude.{codes, nat_le}
use Rattle.pl_grammar.specs.declared.Place.{Place}
use Rattle.pl_grammar.specs.declared.BinarySign.{BinarySign}
use Rattle.pl_grammar.specs.Tree.{Tree, binary, method, Args, left_level, right_level}
use Rattle.pl_grammar.specs.Printed.{tree_level}
use Rattle.pl_syntax.specs.Canonical.{binary_text, placed_text, tree_text, args_text}

pub binary_written : (s : BinarySign) (p : Place) (l r : Tree) (j k : ℕ) (sign before left middle out : List ℕ) → j ≡ left_level s → k ≡ right_level s → sign ≡ binary_text s → left ≡ before ++ placed_text (nat_le j (tree_level l)) (tree_text l) → middle ≡ left ++ sign → out ≡ middle ++ placed_text (nat_le k (tree_level r)) (tree_text r) → out ≡ before ++ tree_text (binary p s l r)
unfolding tree_text
binary_written s p l r j k sign before left middle out a b c d e f = rw (f, e, d, c, a, b) (regrouped before _ (binary_text s) _)
  where
    regrouped : (o x y z : List ℕ) → ((o ++ x) ++ y) ++ z ≡ o ++ (x ++ (y ++ z))
    regrouped o x y z = simp append_assoc refl

pub method_written : (p : Place) (e : Tree) (n : List ℕ) (ps : Args) (before object name out : List ℕ) → object ≡ before ++ placed_text (nat_le 8 (tree_level e)) (tree_text e) → name ≡ object ++ (codes "." ++ n) → out ≡ name ++ args_text ps → out ≡ before ++ tree_text (method p e n ps)
unfolding tree_text
method_written p e n ps before object name out a b c = rw (c, b, a) (regrouped before _ (codes ".") n _)
  where
    regrouped : (o x d n z : List ℕ) → ((o ++ x) ++ (d ++ n)) ++ z ≡ o ++ (x ++ (d ++ (n ++ z)))
    regrouped o x d n z = simp append_assoc refl
