-- The tokens of the code, as the grammar has them; and what a step over a text does.
use Rattle.std.specs.Prelude.{ℕ, ◌+◌, ◌^◌, ◌<◌, List, [], ◌∷◌, length}
use Rattle.pl_grammar.specs.declared.Place.{Place}
use Rattle.pl_grammar.specs.Tree as t
use Rattle.pl_grammar.specs.Tree.{Lexeme, mark}
use Rattle.pl_grammar.specs.Faults.{Tail, AtEnd, AtBad}
use Rattle.pl_syntax.specs.Text.{Read}
use Rattle.pl_syntax.specs.declared.token.Token.{Token}
use Rattle.pl_syntax.specs.declared.token.Token.TheVariants as v
use Rattle.pl_syntax.specs.declared.text.Next.{Next}
use Rattle.pl_syntax.specs.declared.text.Next.TheVariants as n

abbrev pub token_of : Token → t.Token
token_of (v.Name w) = t.Name w
token_of (v.Number x) = t.Number x
token_of v.LargeNumber = t.LargeNumber
token_of (v.Text w) = t.Text w
token_of (v.Operator o) = t.Operator o
token_of v.Tilde = t.Tilde
token_of v.Dot = t.Dot
token_of v.Open = t.Open
token_of v.Close = t.Close
token_of v.Comma = t.Comma
token_of v.Assign = t.Assign
token_of v.Semicolon = t.Semicolon
token_of v.PipelineWord = t.PipelineWord
token_of v.LetWord = t.LetWord
token_of v.ColumnWord = t.ColumnWord
token_of v.ScreenWord = t.ScreenWord

-- places in the text fit 32 bits
pub record HasRoom (p : Place) (bs : List ℕ) : Type 0 where
  pub line : p.line + length bs < 2 ^ 32
  pub col : p.col + length bs < 2 ^ 32

-- From place p the text bs begins, after a gap, with the token t at place r, and goes on with rest at
-- place q.
pub record Begins (p : Place) (bs : List ℕ) (r : Place) (t : t.Token) (q : Place)
    (rest : List ℕ) : Type 0 where
  pub reads : (ts : List Lexeme) (tail : Tail) → Read q rest ts tail → Read p bs (mark r t ∷ ts) tail
  pub fewer : length rest < length bs
  pub room : HasRoom q rest

-- what comes next in the text bs from place p on, and where the text goes on
abbrev pub IsNext : Place → List ℕ → Next → Place → List ℕ → Type 0
IsNext p bs (n.End r) q rest = Read p bs [] (AtEnd r)
IsNext p bs (n.Bad r) q rest = Read p bs [] (AtBad r)
IsNext p bs (n.Token r t) q rest = Begins p bs r (token_of t) q rest
