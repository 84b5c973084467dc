use Rattle.std.proofs.Common.{◌≡◌, ℕ, ◌<◌, get_or, pos}
use Rattle.pl_spec.specs.Cells.{is_true}
use Rattle.pl_spec.specs.World.{exists}
use Rattle.pl_cross.specs.Arrays.{sid_in}
use Rattle.pl_exec.specs.Tasks.{sids_in}
use Rattle.pl_exec.specs.ChunkInputs.{task_at}
use Rattle.pl_exec.proofs.term_session.existing_row.Given as goal

abbrev pub invariant-loop-i : goal.invariant-loop-i
invariant-loop-i l = (n : ℕ) → n < l.i → is_true (get_or l.keep n (pos 0)) ≡ exists (task_at l.term_session).world (sid_in (sids_in (task_at l.term_session)) n) (pos l.term_session.session)
