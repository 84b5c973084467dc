-- Where the reader of a script stands, as the grammar's machine has it, and what a step answers.
use Rattle.std.specs.Prelude.{◌≡◌, Option, Some, None, Result, Ok, Err}
use Rattle.pl_grammar.specs.Machine as m
use Rattle.pl_grammar.specs.Script as g
use Rattle.pl_grammar.specs.Tree.{Tree}
use Rattle.pl_syntax.specs.Frames.{mode_of}
use Rattle.pl_syntax.specs.Open.{open_in}
use Rattle.pl_syntax.specs.Plain.{plain}
use Rattle.pl_syntax.specs.Statements.{head_of, statements_of}
use Rattle.pl_syntax.specs.declared.tree.Expr.{Expr}
use Rattle.pl_syntax.specs.declared.machine.MoveError.{MoveError}
use Rattle.pl_syntax.specs.declared.machine.MoveError.TheVariants as e
use Rattle.pl_syntax.specs.declared.stage.Stage.{Stage}
use Rattle.pl_syntax.specs.declared.stage.Stage.TheVariants.{Opening, VersionWanted, VersionGiven, Between, LetWanted, ColumnWanted, AssignWanted, Within}

abbrev pub stage_of : Stage → g.Stage
stage_of Opening = g.Opening
stage_of VersionWanted = g.VersionWanted
stage_of VersionGiven = g.VersionGiven
stage_of (Between ss) = g.Between (statements_of ss.items)
stage_of (LetWanted ss) = g.LetWanted (statements_of ss.items)
stage_of (ColumnWanted ss) = g.ColumnWanted (statements_of ss.items)
stage_of (AssignWanted ss h) = g.AssignWanted (statements_of ss.items) (head_of h)
stage_of (Within ss h mode stack) = g.Within (statements_of ss.items) (head_of h)
    (m.at (mode_of mode) (open_in stack))

-- the move that a function made is the machine's, unless memory ran out
abbrev pub StageMoves : Result Stage MoveError → Option g.Stage → Type 0
StageMoves (Ok stage) o = o ≡ Some (stage_of stage)
StageMoves (Err e.Unexpected) o = o ≡ None
StageMoves (Err e.Memory) o = Unit {0}

-- the same of an expression that ends
abbrev pub Finishes : Result Expr MoveError → Option Tree → Type 0
Finishes (Ok x) o = o ≡ Some (plain x)
Finishes (Err e.Unexpected) o = o ≡ None
Finishes (Err e.Memory) o = Unit {0}
