-- The canonical tokens of whole scripts, what a script's tokens say of its parts, and scripts without their
-- places.
use Rattle.std.specs.Prelude.{ℕ, suc, ◌*◌, ℤ, pos, Bool, true, ◌&&◌, nat_le, List, [], ◌∷◌, ◌++◌, length, Option, Some, None, map}
use Rattle.std.specs.List.{list_all}
use Rattle.pl_grammar.specs.Tree.{Token, Name, Number, Text, Assign, Semicolon, PipelineWord, LetWord, ColumnWord, ScreenWord, Lexeme, mark, Tree, number, text, name, call, prefix, binary, member, method, Args, no_args, arg}
use Rattle.pl_grammar.specs.Printed.{nowhere, here, tokens, tree_depth}
use Rattle.pl_grammar.specs.Places.{bare}
use Rattle.pl_grammar.specs.Script.{Head, LetHead, ColumnHead, ScreenHead, Statement}
use Rattle.pl_grammar.specs.Faults.{most_depth, most_tokens}

abbrev pub head_tokens : Head → List Lexeme
head_tokens (LetHead p n) = here LetWord ∷ (mark p (Name n) ∷ (here Assign ∷ []))
head_tokens (ColumnHead p n) = here ColumnWord ∷ (mark p (Name n) ∷ (here Assign ∷ []))
head_tokens (ScreenHead p) = mark p ScreenWord ∷ []

unfoldable pub statements_tokens : List Statement → List Lexeme
statements_tokens [] = []
statements_tokens (s ∷ ss) = head_tokens s.head ++ (tokens s.tree ++ (here Semicolon ∷ statements_tokens ss))

-- a version as a number, in millionths
abbrev pub version_number : ℕ → ℤ
version_number n = pos (n * 1000000)

-- the canonical tokens of a script
unfoldable pub script_tokens : ℕ → List Statement → List Lexeme
script_tokens n ss = here PipelineWord ∷ (here (Number (version_number n)) ∷ (here Semicolon ∷ statements_tokens ss))

-- scripts without their places
abbrev pub bare_head : Head → Head
bare_head (LetHead p n) = LetHead nowhere n
bare_head (ColumnHead p n) = ColumnHead nowhere n
bare_head (ScreenHead p) = ScreenHead nowhere

abbrev pub bare_statement : Statement → Statement
bare_statement s = record { head = bare_head s.head; tree = bare s.tree }

unfoldable pub bare_script : List Statement → List Statement
bare_script ss = map bare_statement ss

-- each name, text and number passes a test
unfoldable pub tokens_pass : (Token → Bool) → List Lexeme → Bool
tokens_pass p [] = true
tokens_pass p (mark q t ∷ ts) = p t && tokens_pass p ts

abbrev pub name_passes : (Token → Bool) → Option (List ℕ) → Bool
name_passes p None = true
name_passes p (Some n) = p (Name n)

unfoldable mutual
  pub tree_passes : (Token → Bool) → Tree → Bool
  tree_passes p (number q v) = p (Number v)
  tree_passes p (text q t) = p (Text t)
  tree_passes p (name q n) = p (Name n)
  tree_passes p (call q n ps) = p (Name n) && args_pass p ps
  tree_passes p (prefix q s e) = tree_passes p e
  tree_passes p (binary q o a b) = tree_passes p a && tree_passes p b
  tree_passes p (member q e n) = tree_passes p e && p (Name n)
  tree_passes p (method q e n ps) = tree_passes p e && (p (Name n) && args_pass p ps)

  pub args_pass : (Token → Bool) → Args → Bool
  args_pass p no_args = true
  args_pass p (arg n e ps) = name_passes p n && (tree_passes p e && args_pass p ps)

abbrev pub head_passes : (Token → Bool) → Head → Bool
head_passes p (LetHead q n) = p (Name n)
head_passes p (ColumnHead q n) = p (Name n)
head_passes p (ScreenHead q) = true

-- A statement has a text: its parts pass the test, its tree isn't too deep, and its canonical tokens are
-- not too many.
abbrev pub is_sound : (Token → Bool) → Statement → Bool
is_sound p s =
    head_passes p s.head
    && (tree_passes p s.tree
    && (nat_le (tree_depth s.tree) most_depth
    && nat_le (suc (length (head_tokens s.head ++ tokens s.tree))) most_tokens))

unfoldable pub are_sound : (Token → Bool) → List Statement → Bool
are_sound p ss = list_all (is_sound p) ss
