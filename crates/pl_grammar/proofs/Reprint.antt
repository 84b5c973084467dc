-- What some tokens derive, its canonical tokens derive.
use Rattle.std.proofs.Common.{◌≡◌, ℕ, suc, ◌≤◌, Bool, true, false, leb, List, ◌++◌, Option, refl, sym, subst, arith}
use Rattle.std.proofs.lemmas.Bool.{le-leb, leb-true}
use Rattle.pl_grammar.specs.Tree.{Lexeme, Tree, prefix, binary, Args}
use Rattle.pl_grammar.specs.Grammar.{Derives, a_number, a_text, a_name, a_call, a_group, a_prefix, a_binary, a_member, a_method, ArgsDerive, none, some, OneArg, bare, named, MoreArgs, end, more}
use Rattle.pl_grammar.specs.Printed.{nowhere, tree_level, placed, name_tokens, tokens, args_tokens, more_tokens, printed}
use Rattle.pl_grammar.proofs.Levels.{levels, prefix_least}
use Rattle.pl_grammar.proofs.Sound.{weaken}

mutual
  raise : {d l : ℕ} {ts : List Lexeme} {e : Tree} → Derives d l ts e → Derives (suc d) l ts e
  raise (a_number h) = a_number h
  raise (a_text h) = a_text h
  raise (a_name h) = a_name h
  raise (a_call r h i) = a_call r h (raise_args i)
  raise (a_group r h i) = a_group r h (raise i)
  raise (a_prefix s h i) = a_prefix s h (raise i)
  raise (a_binary o h i j) = a_binary o h (raise i) (raise j)
  raise (a_member q h i) = a_member q h (raise i)
  raise (a_method q r t h i j) = a_method q r t h (raise i) (raise_args j)

  raise_args : {d : ℕ} {ts : List Lexeme} {ps : Args} → ArgsDerive d ts ps → ArgsDerive (suc d) ts ps
  raise_args none = none
  raise_args (some one rest) = some (raise_arg one) (raise_more rest)

  raise_arg : {d : ℕ} {ts : List Lexeme} {n : Option (List ℕ)} {e : Tree} → OneArg d ts n e → OneArg (suc d) ts n e
  raise_arg (bare i) = bare (raise i)
  raise_arg (named i) = named (raise i)

  raise_more : {d : ℕ} {ts : List Lexeme} {ps : Args} → MoreArgs d ts ps → MoreArgs (suc d) ts ps
  raise_more end = end
  raise_more (more one rest) = more (raise_arg one) (raise_more rest)

pub record Prints (d l : ℕ) (e : Tree) : Type 0 where
  pub own : Derives d (tree_level e) (tokens e) e
  pub whole : Derives d l (printed l e) e

-- no parentheses are needed
plainly : (d l : ℕ) (e : Tree) → l ≤ tree_level e → Derives d (tree_level e) (tokens e) e → Prints d l e
plainly d l e h x = record { own = x; whole = subst (λ b. Derives d l (placed b (tokens e)) e) (sym (le-leb l (tree_level e) h)) (weaken x l h) }

grouped : (d l : ℕ) (e : Tree) → l ≤ 9 → Derives d (tree_level e) (tokens e) e → 1 ≤ tree_level e → Prints (suc d) l e
grouped d l e low x h = record { own = raise x; whole = by_test (leb l (tree_level e)) (leb-true l (tree_level e)) }
  where
    by_test : (b : Bool) → (b ≡ true → l ≤ tree_level e) → Derives (suc d) l (placed b (tokens e)) e
    by_test true k = weaken (raise x) l (k refl)
    by_test false k = a_group nowhere low (weaken x 1 h)

pub level_least : (e : Tree) → 1 ≤ tree_level e
level_least (prefix p s e) = omega (arith, prefix_least s)
level_least (binary p o a b) = (levels o).low
level_least e = omega arith

mutual
  unfolding tokens args_tokens more_tokens

  pub prints : {d l : ℕ} {ts : List Lexeme} {e : Tree} → Derives d l ts e → Prints d l e
  prints {d = d} {l = l} {e = e} (a_number h) = plainly d l e h (a_number (omega arith))
  prints {d = d} {l = l} {e = e} (a_text h) = plainly d l e h (a_text (omega arith))
  prints {d = d} {l = l} {e = e} (a_name h) = plainly d l e h (a_name (omega arith))
  prints {l = l} {e = e} (a_call {d = d} r h i) = plainly (suc d) l e h (a_call nowhere (omega arith) (prints_args i))
  prints {l = l} {e = e} (a_group {d = d} r h i) = grouped d l e h (prints i).own (level_least e)
  prints {l = l} {e = e} (a_prefix {d = d} s h i) = plainly (suc d) l e h (a_prefix s (omega arith) (prints i).whole)
  prints {d = d} {l = l} {e = e} (a_binary o h i j) = plainly d l e h (a_binary o (omega arith) (prints i).whole (prints j).whole)
  prints {d = d} {l = l} {e = e} (a_member q h i) = plainly d l e h (a_member nowhere (omega arith) (prints i).whole)
  prints {l = l} {e = e} (a_method {d = d} q r t h i j) = plainly (suc d) l e h (a_method nowhere nowhere nowhere (omega arith) (prints i).whole (prints_args j))

  prints_args : {d : ℕ} {ts : List Lexeme} {ps : Args} → ArgsDerive d ts ps → ArgsDerive d (args_tokens ps) ps
  prints_args none = none
  prints_args (some one rest) = some (prints_arg one) (prints_more rest)

  prints_arg : {d : ℕ} {ts : List Lexeme} {n : Option (List ℕ)} {e : Tree} → OneArg d ts n e → OneArg d (name_tokens n ++ tokens e) n e
  prints_arg {e = e} (bare i) = bare (weaken (prints i).own 1 (level_least e))
  prints_arg {e = e} (named i) = named (weaken (prints i).own 1 (level_least e))

  prints_more : {d : ℕ} {ts : List Lexeme} {ps : Args} → MoreArgs d ts ps → MoreArgs d (more_tokens ps) ps
  prints_more end = end
  prints_more (more one rest) = more (prints_arg one) (prints_more rest)
