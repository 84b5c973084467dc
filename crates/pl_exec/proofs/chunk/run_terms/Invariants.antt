use Rattle.std.proofs.Common.{◌≡◌, ◌+◌, ◌≤◌, length, max, fold, map, sum_by}
use Rattle.std.specs.List.{range_with_len}
use Rattle.pl_spec.specs.Limits.{saturated}
use Rattle.pl_workspace.specs.Slots.{live_count}
use Rattle.pl_planner.specs.Plans.{slot_of}
use Rattle.pl_exec.specs.Slotted.{AreLive}
use Rattle.pl_exec.specs.Tasks.{IsArray, held_in, kept_in, steps_in}
use Rattle.pl_exec.specs.ChunkInputs.{task_of}
use Rattle.pl_exec.proofs.chunk.run_terms.Given as goal

abbrev pub invariant-loop-k : goal.invariant-loop-k
invariant-loop-k g l = record {
  live : AreLive (slot_of l.chunk.plan.now) (IsArray (task_of l.chunk)) (kept_in (task_of l.chunk) l.k) l.k l.workspace;
  most : l.workspace.peak ≡ max l.fn.workspace.peak (fold max 0 (map (held_in (task_of l.chunk)) (range_with_len 0 l.k)));
  held : l.peak ≡ fold max 0 (map (held_in (task_of l.chunk)) (range_with_len 0 l.k));
  cost : l.steps ≡ l.fn.steps + sum_by (steps_in (task_of l.chunk)) (range_with_len 0 l.k);
  applied : l.applied ≡ saturated (sum_by (steps_in (task_of l.chunk)) (range_with_len 0 l.k));
  counted : live_count l.workspace.slots ≤ l.workspace.peak;
  len : l.workspace.len ≡ l.fn.workspace.len;
  size : length l.workspace.slots ≡ length l.fn.workspace.slots;
  cross : l.cross ≡ l.fn.cross;
  rows : l.rows ≡ l.fn.rows;
}
