use Rattle.std.proofs.Common.{◌≡◌, All, map, replicate}
use Rattle.pl_workspace.specs.Inside.{slot_of, HasLen}
use Rattle.pl_workspace.specs.Slots as view
use Rattle.pl_workspace.proofs.Workspace.reserve.Given as goal

abbrev pub invariant-loop : goal.invariant-loop
invariant-loop l = record {
  free : map slot_of l.held.items ≡ replicate l.counter view.Free;
  each : All (HasLen l.len) l.held.items;
}
