-- Tokens and trees that differ in their places alone.
use Rattle.std.specs.Prelude.{List, [], ◌∷◌}
use Rattle.pl_grammar.specs.declared.Place.{Place}
use Rattle.pl_grammar.specs.Tree.{Token, Lexeme, mark, Tree, number, text, name, call, prefix, binary, member, method, Args, no_args, arg}
use Rattle.pl_grammar.specs.Printed.{nowhere}

pub data SameTokens : List Lexeme → List Lexeme → Type 0 where
  same_none : SameTokens [] []
  same_next : {p : Place} {t : Token} {ts us : List Lexeme} (q : Place) → SameTokens ts us
      → SameTokens (mark p t ∷ ts) (mark q t ∷ us)

unfoldable mutual
  pub bare : Tree → Tree
  bare (number p v) = number nowhere v
  bare (text p t) = text nowhere t
  bare (name p n) = name nowhere n
  bare (call p n ps) = call nowhere n (bare_args ps)
  bare (prefix p s e) = prefix nowhere s (bare e)
  bare (binary p o a b) = binary nowhere o (bare a) (bare b)
  bare (member p e n) = member nowhere (bare e) n
  bare (method p e n ps) = method nowhere (bare e) n (bare_args ps)

  pub bare_args : Args → Args
  bare_args no_args = no_args
  bare_args (arg n e ps) = arg n (bare e) (bare_args ps)
