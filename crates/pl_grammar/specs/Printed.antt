-- The canonical tokens of a tree: parentheses exactly where a place asks for a level above the operand's.
use Rattle.std.specs.Prelude.{ℕ, suc, max, Bool, true, false, nat_le, List, [], ◌∷◌, ◌++◌, Option, Some, None}
use Rattle.pl_grammar.specs.declared.Place.{Place}
use Rattle.pl_grammar.specs.Tree.{Token, Name, Number, Text, Operator, Dot, Open, Close, Comma, Assign, Lexeme, mark, Tree, number, text, name, call, prefix, binary, member, method, Args, no_args, arg, sign_token, prefix_level, level, left_level, right_level}

-- the place of a token that is no node's own
abbrev pub nowhere : Place
nowhere = record { line = 0; col = 0 }

abbrev pub here : Token → Lexeme
here t = mark nowhere t

abbrev pub tree_level : Tree → ℕ
tree_level (prefix p s e) = prefix_level s
tree_level (binary p o a b) = level o
tree_level (member p e n) = 8
tree_level (method p e n ps) = 8
tree_level e = 9

-- in a place that asks for level l
abbrev pub placed : Bool → List Lexeme → List Lexeme
placed true ts = ts
placed false ts = here Open ∷ (ts ++ (here Close ∷ []))

abbrev pub name_tokens : Option (List ℕ) → List Lexeme
name_tokens None = []
name_tokens (Some n) = here (Name n) ∷ (here Assign ∷ [])

unfoldable mutual
  pub tokens : Tree → List Lexeme
  tokens (number p v) = mark p (Number v) ∷ []
  tokens (text p t) = mark p (Text t) ∷ []
  tokens (name p n) = mark p (Name n) ∷ []
  tokens (call p n ps) = mark p (Name n) ∷ (here Open ∷ (args_tokens ps ++ (here Close ∷ [])))
  tokens (prefix p s e) = mark p (sign_token s) ∷ placed (nat_le (prefix_level s) (tree_level e)) (tokens e)
  tokens (binary p o a b) = placed (nat_le (left_level o) (tree_level a)) (tokens a)
      ++ (mark p (Operator o) ∷ placed (nat_le (right_level o) (tree_level b)) (tokens b))
  tokens (member p e n) = placed (nat_le 8 (tree_level e)) (tokens e) ++ (here Dot ∷ (mark p (Name n) ∷ []))
  tokens (method p e n ps) = placed (nat_le 8 (tree_level e)) (tokens e)
      ++ (here Dot ∷ (mark p (Name n) ∷ (here Open ∷ (args_tokens ps ++ (here Close ∷ [])))))

  pub args_tokens : Args → List Lexeme
  args_tokens no_args = []
  args_tokens (arg n e ps) = (name_tokens n ++ tokens e) ++ more_tokens ps

  pub more_tokens : Args → List Lexeme
  more_tokens no_args = []
  more_tokens (arg n e ps) = here Comma ∷ ((name_tokens n ++ tokens e) ++ more_tokens ps)

abbrev pub printed : ℕ → Tree → List Lexeme
printed l e = placed (nat_le l (tree_level e)) (tokens e)

-- how many constructs the canonical tokens open inside one another, in a place that asks for level l
abbrev pub placed_depth : Bool → ℕ → ℕ
placed_depth true n = n
placed_depth false n = suc n

unfoldable mutual
  pub tree_depth : Tree → ℕ
  tree_depth (number p v) = 0
  tree_depth (text p t) = 0
  tree_depth (name p n) = 0
  tree_depth (call p n ps) = suc (args_depth ps)
  tree_depth (prefix p s e) = suc (placed_depth (nat_le (prefix_level s) (tree_level e)) (tree_depth e))
  tree_depth (binary p o a b) = max (placed_depth (nat_le (left_level o) (tree_level a)) (tree_depth a))
      (placed_depth (nat_le (right_level o) (tree_level b)) (tree_depth b))
  tree_depth (member p e n) = placed_depth (nat_le 8 (tree_level e)) (tree_depth e)
  tree_depth (method p e n ps) = max (placed_depth (nat_le 8 (tree_level e)) (tree_depth e))
      (suc (args_depth ps))

  pub args_depth : Args → ℕ
  args_depth no_args = 0
  args_depth (arg n e ps) = max (tree_depth e) (args_depth ps)
