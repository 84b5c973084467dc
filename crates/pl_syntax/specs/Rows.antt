-- The list of an argument list.
use Rattle.std.specs.Prelude.{List}
use Rattle.pl_syntax.specs.declared.tree.Arg.{Arg}
use Rattle.pl_syntax.specs.declared.tree.ArgList.{ArgList, out-ArgList}

abbrev pub args_of : ArgList → List Arg
args_of l = (out-ArgList l).args.items
