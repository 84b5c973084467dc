use Rattle.std.proofs.Common.{get_or, pos, length}
use Rattle.pl_exec.proofs.Spans.{IsPut}
use Rattle.pl_exec.proofs.fill.put_row.Given as goal

abbrev pub invariant-loop-i : goal.invariant-loop-i
invariant-loop-i l = IsPut (λ i. get_or l.row i (pos 0)) (length l.row) l.count l.session l.i l.fn.cells l.cells
