use Rattle.std.proofs.Common.{◌≡◌, length}
use Rattle.pl_terms.specs.Checked.{pipeline_of}
use Rattle.pl_runner.specs.Releases.{HoldOnly}
use Rattle.pl_runner.proofs.release.release_outputs.Given as goal

abbrev pub invariant-loop-t : goal.invariant-loop-t
invariant-loop-t l =
    record {
      held : HoldOnly (pipeline_of l.asked.checked.now) l.asked.plan.now l.t l.workspace;
      slots : length l.workspace.slots ≡ length l.fn.workspace.slots;
      len : l.workspace.len ≡ l.fn.workspace.len;
    }
