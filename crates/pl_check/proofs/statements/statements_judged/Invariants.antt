use Rattle.std.proofs.Common.{◌≡◌, true, drop}
use Rattle.pl_syntax.specs.Statements.{statements_of}
use Rattle.pl_grammar.specs.Whole.{are_sound}
use Rattle.pl_syntax.specs.Sound.{is_written}
use Rattle.pl_terms.specs.Nodes.{interned}
use Rattle.pl_check.specs.Judging.{judged_of}
use Rattle.pl_check.specs.Typed.{statements_judged}
use Rattle.pl_check.specs.Standing.{JudgedIsSound}
use Rattle.pl_check.proofs.statements.statements_judged.Given as goal

abbrev pub invariant-loop-statement : goal.invariant-loop-statement
invariant-loop-statement l =
    (statements_judged interned l.version (judged_of l.judged) (statements_of (drop l.statement-index l.statements)) ≡ statements_judged interned l.fn.version (judged_of l.fn.judged) (statements_of l.fn.statements))
    × JudgedIsSound (judged_of l.judged) × (are_sound is_written (statements_of (drop l.statement-index l.statements)) ≡ true)
