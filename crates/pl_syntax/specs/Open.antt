-- What is open in a stack of the code.
use Rattle.std.specs.Prelude.{List}
use Rattle.pl_grammar.specs.Machine as m
use Rattle.pl_syntax.specs.Frames.{frames_of}
use Rattle.pl_syntax.specs.declared.stack.Stack.{Stack}

unfoldable pub open_in : Stack → List m.Frame
open_in s = frames_of s.frames.items
