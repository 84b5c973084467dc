-- A tree that isn't too deep is derived by its canonical tokens, and only such a tree is derived at all.
use Rattle.std.proofs.Common.{◌≡◌, ℕ, zero, suc, ◌≤◌, Bool, true, false, leb, List, ◌++◌, Option, Some, None, refl, ap, arith}
use Rattle.std.proofs.lemmas.Bool.{le-leb, leb-true}
use Rattle.pl_grammar.specs.Tree.{Lexeme, Tree, number, text, name, call, prefix, binary, member, method, Args, no_args, arg, prefix_level, left_level, right_level}
use Rattle.pl_grammar.specs.Grammar.{Derives, a_number, a_text, a_name, a_call, a_group, a_prefix, a_binary, a_member, a_method, ArgsDerive, none, some, OneArg, bare, named, MoreArgs, end, more}
use Rattle.pl_grammar.specs.Printed.{nowhere, tree_level, placed, name_tokens, tokens, args_tokens, more_tokens, placed_depth, tree_depth, args_depth}
use Rattle.pl_grammar.proofs.Levels.{levels, prefix_most}
use Rattle.pl_grammar.proofs.Sound.{weaken}
use Rattle.pl_grammar.proofs.Reprint.{level_least}

at_place : (d l : ℕ) (e : Tree) (b : Bool) → leb l (tree_level e) ≡ b → l ≤ 9 → placed_depth b (tree_depth e) ≤ d → ((k : ℕ) → tree_depth e ≤ k → Derives k (tree_level e) (tokens e) e) → Derives d l (placed b (tokens e)) e
at_place d l e true q low h own = weaken (own d h) l (leb-true l (tree_level e) q)
at_place zero l e false q low h own = absurd (omega (arith, h))
at_place (suc d) l e false q low h own = a_group nowhere low (weaken (own d (omega (arith, h))) 1 (level_least e))

one_canonical : (n : Option (List ℕ)) (e : Tree) (d : ℕ) → Derives d 1 (tokens e) e → OneArg d (name_tokens n ++ tokens e) n e
one_canonical None e d x = bare x
one_canonical (Some n) e d x = named x

mutual
  unfolding tokens args_tokens more_tokens tree_depth args_depth

  pub canonical : (e : Tree) (d : ℕ) → tree_depth e ≤ d → Derives d (tree_level e) (tokens e) e
  canonical (number p v) d h = a_number (omega arith)
  canonical (text p t) d h = a_text (omega arith)
  canonical (name p n) d h = a_name (omega arith)
  canonical (call p n ps) zero h = absurd (omega (arith, h))
  canonical (call p n ps) (suc d) h = a_call nowhere (omega arith) (canonical_args ps d (omega (arith, h)))
  canonical (prefix p s e) zero h = absurd (omega (arith, h))
  canonical (prefix p s e) (suc d) h = a_prefix s (omega arith) (at_place d (prefix_level s) e (leb (prefix_level s) (tree_level e)) refl (omega (arith, prefix_most s)) (omega (arith, h)) (canonical e))
  canonical (binary p o a b) d h =
      let m = (levels o).most in
      let r = (levels o).left_most in
      a_binary o (omega arith)
      (at_place d (left_level o) a (leb (left_level o) (tree_level a)) refl (omega (arith, m, r)) (omega (arith, h)) (canonical a))
      (at_place d (right_level o) b (leb (right_level o) (tree_level b)) refl (omega (arith, m)) (omega (arith, h)) (canonical b))
  canonical (member p e n) d h = a_member nowhere (omega arith) (at_place d 8 e (leb 8 (tree_level e)) refl (omega arith) h (canonical e))
  canonical (method p e n ps) zero h = absurd (omega (arith, h))
  canonical (method p e n ps) (suc d) h = a_method nowhere nowhere nowhere (omega arith) (at_place (suc d) 8 e (leb 8 (tree_level e)) refl (omega arith) (omega (arith, h)) (canonical e)) (canonical_args ps d (omega (arith, h)))

  canonical_args : (ps : Args) (d : ℕ) → args_depth ps ≤ d → ArgsDerive d (args_tokens ps) ps
  canonical_args no_args d h = none
  canonical_args (arg n e ps) d h = some (one_canonical n e d (weaken (canonical e d (omega (arith, h))) 1 (level_least e))) (canonical_more ps d (omega (arith, h)))

  canonical_more : (ps : Args) (d : ℕ) → args_depth ps ≤ d → MoreArgs d (more_tokens ps) ps
  canonical_more no_args d h = end
  canonical_more (arg n e ps) d h = more (one_canonical n e d (weaken (canonical e d (omega (arith, h))) 1 (level_least e))) (canonical_more ps d (omega (arith, h)))

-- what is derived isn't too deep

own_place : (l : ℕ) (e : Tree) → l ≤ tree_level e → placed_depth (leb l (tree_level e)) (tree_depth e) ≡ tree_depth e
own_place l e h = ap (λ b. placed_depth b (tree_depth e)) (le-leb l (tree_level e) h)

some_place : (b : Bool) (n d : ℕ) → n ≤ d → placed_depth b n ≤ suc d
some_place true n d h = omega (arith, h)
some_place false n d h = omega (arith, h)

pub least_place : (b : Bool) (n : ℕ) → n ≤ placed_depth b n
least_place true n = omega arith
least_place false n = omega arith

mutual
  unfolding tree_depth args_depth

  pub shallow : {d l : ℕ} {ts : List Lexeme} {e : Tree} → Derives d l ts e → placed_depth (leb l (tree_level e)) (tree_depth e) ≤ d
  shallow {d = d} {l = l} {e = e} (a_number h) = omega (arith, own_place l e h)
  shallow {d = d} {l = l} {e = e} (a_text h) = omega (arith, own_place l e h)
  shallow {d = d} {l = l} {e = e} (a_name h) = omega (arith, own_place l e h)
  shallow {l = l} {e = e} (a_call r h i) = omega (arith, own_place l e h, shallow_args i)
  shallow {l = l} {e = e} (a_group {d = d} r h i) = some_place (leb l (tree_level e)) (tree_depth e) d (omega (arith, shallow i, least_place (leb 1 (tree_level e)) (tree_depth e)))
  shallow {l = l} {e = e} (a_prefix s h i) = omega (arith, own_place l e h, shallow i)
  shallow {l = l} {e = e} (a_binary o h i j) = omega (arith, own_place l e h, shallow i, shallow j)
  shallow {l = l} {e = e} (a_member q h i) = omega (arith, own_place l e h, shallow i)
  shallow {l = l} {e = e} (a_method q r t h i j) = omega (arith, own_place l e h, shallow i, shallow_args j)

  shallow_args : {d : ℕ} {ts : List Lexeme} {ps : Args} → ArgsDerive d ts ps → args_depth ps ≤ d
  shallow_args none = omega arith
  shallow_args (some one rest) = omega (arith, shallow_arg one, shallow_more rest)

  shallow_arg : {d : ℕ} {ts : List Lexeme} {n : Option (List ℕ)} {e : Tree} → OneArg d ts n e → tree_depth e ≤ d
  shallow_arg {e = e} (bare i) = omega (arith, shallow i, least_place (leb 1 (tree_level e)) (tree_depth e))
  shallow_arg {e = e} (named i) = omega (arith, shallow i, least_place (leb 1 (tree_level e)) (tree_depth e))

  shallow_more : {d : ℕ} {ts : List Lexeme} {ps : Args} → MoreArgs d ts ps → args_depth ps ≤ d
  shallow_more end = omega arith
  shallow_more (more one rest) = omega (arith, shallow_arg one, shallow_more rest)
