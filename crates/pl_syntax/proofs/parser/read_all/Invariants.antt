use Rattle.std.proofs.Common.{◌≤◌, List, length}
use Rattle.pl_grammar.specs.Tree.{Lexeme}
use Rattle.pl_grammar.specs.Faults.{Tail, most_tokens}
use Rattle.pl_syntax.specs.Text.{Read}
use Rattle.pl_syntax.specs.Code.{HasRoom}
use Rattle.pl_syntax.specs.Stages.{stage_of}
use Rattle.pl_syntax.proofs.Verdicts.{Continues}
use Rattle.pl_syntax.proofs.parser.read_all.Given as goal

abbrev pub invariant-loop-place : goal.invariant-loop-place
invariant-loop-place l = record {
  goes : (ts : List Lexeme) (tail : Tail) → Read l.text.place l.text.bytes.now ts tail → Continues l.fn.bytes ts tail l.progress.1.0 l.progress.1.1.0 (stage_of l.progress.0);
  room : HasRoom l.text.place l.text.bytes.now;
  few : l.progress.1.0 ≤ most_tokens;
}

abbrev pub decreases-loop-place : goal.decreases-loop-place
decreases-loop-place l = length l.text.bytes.now
