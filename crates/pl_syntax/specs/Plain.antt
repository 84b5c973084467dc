-- The tree of an expression, without where it lies in memory.
use Rattle.std.specs.Prelude.{ℕ, List}
use Rattle.pl_grammar.specs.declared.Place.{Place}
use Rattle.pl_grammar.specs.Tree.{Tree, number, text, name, call, prefix, binary, member, method, Args, no_args, arg}
use Rattle.pl_syntax.specs.declared.tree.Expr.{Expr}
use Rattle.pl_syntax.specs.declared.tree.ExprNode.{ExprNode, Held-ExprNode-Member-2, None', Some'}
use Rattle.pl_syntax.specs.declared.tree.ArgList.{ArgList, ArgList', Row_of-Arg, end_of-Arg, more_of-Arg}
use Rattle.pl_syntax.specs.declared.tree.ExprNode.TheVariants.{Number, Text, Name, Call, Prefix', Binary', Member'}

abbrev mutual
  pub tree_of : ExprNode → Place → Tree
  tree_of (Number n) p = number p n
  tree_of (Text w) p = text p w
  tree_of (Name w) p = name p w
  tree_of (Call w ps) p = call p w (args_tree ps)
  tree_of (Prefix' s b q e) p = prefix p s (tree_of e q)
  tree_of (Binary' s b q l c r e) p = binary p s (tree_of l q) (tree_of e r)
  tree_of (Member' b q e w h) p = held_tree h p (tree_of e q) w

  pub args_tree : ArgList → Args
  args_tree (ArgList' shape row) = row_tree row

  pub row_tree : {m : _} → Row_of-Arg m → Args
  row_tree end_of-Arg = no_args
  row_tree (more_of-Arg n place e rest) = arg n (tree_of e place) (row_tree rest)

  pub held_tree : Held-ExprNode-Member-2 → Place → Tree → List ℕ → Tree
  held_tree None' p e w = member p e w
  held_tree (Some' ps) p e w = method p e w (args_tree ps)

abbrev pub plain : Expr → Tree
plain e = tree_of e.node e.place
