use Rattle.std.proofs.Common.{◌≡◌, ◌≤◌, List, length}
use Rattle.pl_grammar.specs.Tree.{Lexeme}
use Rattle.pl_grammar.specs.Faults.{Tail}
use Rattle.pl_syntax.specs.Front.{gap_front}
use Rattle.pl_syntax.specs.Text.{Read}
use Rattle.pl_syntax.specs.Code.{HasRoom}
use Rattle.pl_syntax.proofs.text.Text.skip_gap.Given as goal

abbrev pub invariant-loop-count : goal.invariant-loop-count
invariant-loop-count l = record {
  reads : (ts : List Lexeme) (tail : Tail) → Read l.self.place l.self.bytes.now ts tail → Read l.fn.self.place l.fn.self.bytes.now ts tail;
  count : l.count ≡ gap_front l.self.bytes.now;
  fewer : length l.self.bytes.now ≤ length l.fn.self.bytes.now;
  room : HasRoom l.self.place l.self.bytes.now;
}

abbrev pub decreases-loop-count : goal.decreases-loop-count
decreases-loop-count l = length l.self.bytes.now
