-- What is open, and where the machine stands, as the grammar's machine has them.
use Rattle.std.specs.Prelude.{List, [], ◌∷◌, Option, Some, None, map, ◌≡◌, Result, Ok, Err}
use Rattle.pl_grammar.specs.Machine as m
use Rattle.pl_grammar.specs.Tree.{Tree}
use Rattle.pl_syntax.specs.Plain.{plain}
use Rattle.pl_syntax.specs.declared.tree.Arg.{Arg}
use Rattle.pl_syntax.specs.declared.tree.Expr.{Expr}
use Rattle.pl_syntax.specs.declared.stack.Callee.{Callee}
use Rattle.pl_syntax.specs.declared.stack.Callee.TheVariants.{Function, Method}
use Rattle.pl_syntax.specs.declared.stack.Called.{Called}
use Rattle.pl_syntax.specs.declared.stack.Frame.{Frame}
use Rattle.pl_syntax.specs.declared.stack.Frame.TheVariants.{Prefixed, Behind, Group, Call}
use Rattle.pl_syntax.specs.declared.machine.Mode.{Mode}
use Rattle.pl_syntax.specs.declared.machine.Mode.TheVariants.{Wanted, ArgWanted, Named, ArgNamed, Membered, Given, Dotted}
use Rattle.pl_syntax.specs.declared.machine.MoveError.{MoveError}
use Rattle.pl_syntax.specs.declared.machine.MoveError.TheVariants.{Unexpected, Memory}

abbrev pub callee_of : Callee → m.Callee
callee_of (Function p w) = m.function p w
callee_of (Method p object w) = m.method_of p (plain object.value) w

abbrev pub arg_of : Arg → m.Arg
arg_of a = record { name = a.name; tree = plain a.expr }

abbrev pub args_list : List Arg → List m.Arg
args_list ps = map arg_of ps

abbrev pub call_of : Called → m.Frame
call_of c = m.Call (callee_of c.callee) (args_list c.args.items) c.name

abbrev pub frame_of : Frame → m.Frame
frame_of (Prefixed p s) = m.Prefixed p s
frame_of (Behind p s left) = m.Behind p s (plain left.value)
frame_of Group = m.Group
frame_of (Call c) = call_of c

-- the innermost first, where the vector has it last
unfoldable pub frames_onto : List Frame → List m.Frame → List m.Frame
frames_onto [] fs = fs
frames_onto (x ∷ xs) fs = frames_onto xs (frame_of x ∷ fs)

unfoldable pub frames_of : List Frame → List m.Frame
frames_of xs = frames_onto xs []

abbrev pub mode_of : Mode → m.Mode
mode_of Wanted = m.Wanted
mode_of ArgWanted = m.ArgWanted
mode_of (Named p w) = m.Named p w
mode_of (ArgNamed p w) = m.ArgNamed p w
mode_of (Membered p object w) = m.Membered p (plain object.value) w
mode_of (Given e) = m.Given (plain e)
mode_of (Dotted object) = m.Dotted (plain object.value)

-- the move that a function made is the machine's, unless memory ran out
abbrev pub Moves : Result Mode MoveError → List m.Frame → Option m.State → Type 0
Moves (Ok mode) frames o = o ≡ Some (m.at (mode_of mode) frames)
Moves (Err Unexpected) frames o = o ≡ None
Moves (Err Memory) frames o = Unit {0}

abbrev pub shown : Option Expr → Option Tree
shown (Some e) = Some (plain e)
shown None = None

abbrev pub shown_callee : Option Callee → Option m.Callee
shown_callee (Some c) = Some (callee_of c)
shown_callee None = None
