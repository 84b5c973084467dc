use Rattle.std.proofs.Common.{◌≡◌, ◌+◌, ◌≤◌, length}
use Rattle.pl_workspace.specs.Slots.{live_count}
use Rattle.pl_planner.specs.Plans.{is_used, last_user, slot_of}
use Rattle.pl_exec.specs.Slotted.{AreLive, left}
use Rattle.pl_exec.specs.Tasks.{IsArray}
use Rattle.pl_exec.specs.ChunkInputs.{task_of}
use Rattle.pl_exec.proofs.chunk.release_ended.Given as goal

abbrev pub invariant-loop-t : goal.invariant-loop-t
invariant-loop-t l = record {
  live : AreLive (slot_of l.chunk.plan.now) (IsArray (task_of l.chunk)) (left (is_used l.chunk.plan.now) (last_user l.chunk.plan.now) l.k l.t) (l.k + 1) l.workspace;
  len : l.workspace.len ≡ l.fn.workspace.len;
  size : length l.workspace.slots ≡ length l.fn.workspace.slots;
  peak : l.workspace.peak ≡ l.fn.workspace.peak;
  counted : live_count l.workspace.slots ≤ l.workspace.peak;
}
