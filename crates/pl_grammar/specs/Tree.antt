-- Tokens, and the syntax tree: each node with its own token's place.
use Rattle.std.specs.Prelude.{ℕ, ℤ, List, Option}
use Rattle.pl_grammar.specs.declared.Place.{Place}
use Rattle.pl_grammar.specs.declared.PrefixSign.{PrefixSign}
use Rattle.pl_grammar.specs.declared.BinarySign.{BinarySign}
use Rattle.pl_grammar.specs.declared.PrefixSign.TheVariants.{Minus, Not}
use Rattle.pl_grammar.specs.declared.BinarySign.TheVariants.{Or, And, Less, LessEqual, Greater, GreaterEqual, Equal, NotEqual, Add, Sub, Mul, Div}

-- The tokens. `-` is Operator Sub wherever it stands; a number is in millionths, and LargeNumber is a
-- literal past the limits of literals.
pub data Token : Type 0 where
  Name : List ℕ → Token
  Number : ℤ → Token
  LargeNumber : Token
  Text : List ℕ → Token
  Operator : BinarySign → Token
  Tilde : Token
  Dot : Token
  Open : Token
  Close : Token
  Comma : Token
  Assign : Token
  Semicolon : Token
  PipelineWord : Token
  LetWord : Token
  ColumnWord : Token
  ScreenWord : Token

-- a token at its place
pub data Lexeme : Type 0 where
  mark : Place → Token → Lexeme

mutual
  pub data Tree : Type 0 where
    number : Place → ℤ → Tree
    text : Place → List ℕ → Tree
    name : Place → List ℕ → Tree
    call : Place → List ℕ → Args → Tree
    prefix : Place → PrefixSign → Tree → Tree
    binary : Place → BinarySign → Tree → Tree → Tree
    member : Place → Tree → List ℕ → Tree
    method : Place → Tree → List ℕ → Args → Tree

  pub data Args : Type 0 where
    no_args : Args
    arg : Option (List ℕ) → Tree → Args → Args

abbrev pub sign_token : PrefixSign → Token
sign_token Minus = Operator Sub
sign_token Not = Tilde

-- the levels, from 1 for `|` to 9 for what needs no parentheses anywhere
abbrev pub prefix_level : PrefixSign → ℕ
prefix_level Not = 3
prefix_level Minus = 7

abbrev pub level : BinarySign → ℕ
level Or = 1
level And = 2
level Less = 4
level LessEqual = 4
level Greater = 4
level GreaterEqual = 4
level Equal = 4
level NotEqual = 4
level Add = 5
level Sub = 5
level Mul = 6
level Div = 6

-- what a binary operator asks of its operands
abbrev pub left_level : BinarySign → ℕ
left_level Or = 1
left_level And = 2
left_level Less = 5
left_level LessEqual = 5
left_level Greater = 5
left_level GreaterEqual = 5
left_level Equal = 5
left_level NotEqual = 5
left_level Add = 5
left_level Sub = 5
left_level Mul = 6
left_level Div = 6

abbrev pub right_level : BinarySign → ℕ
right_level Or = 2
right_level And = 3
right_level Less = 5
right_level LessEqual = 5
right_level Greater = 5
right_level GreaterEqual = 5
right_level Equal = 5
right_level NotEqual = 5
right_level Add = 6
right_level Sub = 6
right_level Mul = 7
right_level Div = 7
