-- The printed form of a script: parentheses exactly where the levels ask for them, one statement a line.
use Rattle.std.specs.Prelude.{ℕ, Bool, true, false, nat_le, List, [], ◌∷◌, ◌++◌, codes, decimal, Option, Some, None}
use Rattle.pl_grammar.specs.declared.PrefixSign.{PrefixSign}
use Rattle.pl_grammar.specs.declared.PrefixSign.TheVariants.{Minus, Not}
use Rattle.pl_grammar.specs.declared.BinarySign.{BinarySign}
use Rattle.pl_grammar.specs.declared.BinarySign.TheVariants.{Or, And, Less, LessEqual, Greater, GreaterEqual, Equal, NotEqual, Add, Sub, Mul, Div}
use Rattle.pl_grammar.specs.Tree.{Tree, number, text, name, call, prefix, binary, member, method, Args, no_args, arg, prefix_level, left_level, right_level}
use Rattle.pl_grammar.specs.Printed.{tree_level}
use Rattle.pl_syntax.specs.Numerals.{number_text}
use Rattle.pl_grammar.specs.Script.{Head, LetHead, ColumnHead, ScreenHead, Statement}

abbrev pub prefix_text : PrefixSign → List ℕ
prefix_text Minus = codes "-"
prefix_text Not = codes "~"

abbrev pub binary_text : BinarySign → List ℕ
binary_text Or = codes " | "
binary_text And = codes " & "
binary_text Less = codes " < "
binary_text LessEqual = codes " <= "
binary_text Greater = codes " > "
binary_text GreaterEqual = codes " >= "
binary_text Equal = codes " == "
binary_text NotEqual = codes " != "
binary_text Add = codes " + "
binary_text Sub = codes " - "
binary_text Mul = codes " * "
binary_text Div = codes " / "

-- parentheses where they are needed
abbrev pub open_text : Bool → List ℕ
open_text true = []
open_text false = codes "("

abbrev pub close_text : Bool → List ℕ
close_text true = []
close_text false = codes ")"

-- an operand whose place may be taken without parentheses or not
abbrev pub placed_text : Bool → List ℕ → List ℕ
placed_text b bs = open_text b ++ (bs ++ close_text b)

abbrev pub name_text : Option (List ℕ) → List ℕ
name_text None = []
name_text (Some n) = n ++ codes "="

-- what stands before an argument that isn't the first
abbrev pub comma_text : Bool → List ℕ
comma_text true = []
comma_text false = codes ", "

abbrev pub in_parentheses : List ℕ → List ℕ
in_parentheses bs = codes "(" ++ (bs ++ codes ")")

unfoldable mutual
  pub tree_text : Tree → List ℕ
  tree_text (number p v) = number_text v
  tree_text (text p t) = codes "\"" ++ (t ++ codes "\"")
  tree_text (name p n) = n
  tree_text (call p n ps) = n ++ in_parentheses (list_text true ps)
  tree_text (prefix p s e) = prefix_text s
      ++ placed_text (nat_le (prefix_level s) (tree_level e)) (tree_text e)
  tree_text (binary p o a b) = placed_text (nat_le (left_level o) (tree_level a)) (tree_text a)
      ++ (binary_text o ++ placed_text (nat_le (right_level o) (tree_level b)) (tree_text b))
  tree_text (member p e n) = placed_text (nat_le 8 (tree_level e)) (tree_text e) ++ (codes "." ++ n)
  tree_text (method p e n ps) = placed_text (nat_le 8 (tree_level e)) (tree_text e)
      ++ (codes "." ++ (n ++ in_parentheses (list_text true ps)))

  pub list_text : Bool → Args → List ℕ
  list_text first no_args = []
  list_text first (arg n e ps) = comma_text first ++ (name_text n ++ (tree_text e ++ list_text false ps))

-- arguments with their parentheses
abbrev pub args_text : Args → List ℕ
args_text ps = in_parentheses (list_text true ps)

abbrev pub head_text : Head → List ℕ
head_text (LetHead p n) = codes "let " ++ (n ++ codes " = ")
head_text (ColumnHead p n) = codes "column " ++ (n ++ codes " = ")
head_text (ScreenHead p) = codes "screen "

abbrev pub statement_text : Statement → List ℕ
statement_text s = head_text s.head ++ (tree_text s.tree ++ codes ";\n")

unfoldable pub statements_text : List Statement → List ℕ
statements_text [] = []
statements_text (s ∷ ss) = statement_text s ++ statements_text ss

unfoldable pub version_text : ℕ → List ℕ
version_text version = codes "pipeline " ++ (decimal version ++ codes ";\n")

-- the canonical text of a script: its version on the first line, and then its statements
unfoldable pub script_text : ℕ → List Statement → List ℕ
script_text version ss = version_text version ++ statements_text ss
