use Rattle.std.proofs.Common.{◌≡◌, ◌<◌, ℕ, get_or, pos}
use Rattle.pl_exec.specs.Tasks.{cell_in}
use Rattle.pl_exec.specs.ChunkInputs.{task_at}
use Rattle.pl_exec.proofs.term_session.cells_on.Given as goal

abbrev pub invariant-loop-i : goal.invariant-loop-i
invariant-loop-i l = (n : ℕ) → n < l.i → get_or l.row n (pos 0) ≡ cell_in (task_at l.term_session) l.fn.term.0 n l.fn.session
