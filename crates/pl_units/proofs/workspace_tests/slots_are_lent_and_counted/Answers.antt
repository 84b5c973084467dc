use Rattle.std.proofs.Common.{refl}
use Rattle.pl_units.proofs.workspace_tests.slots_are_lent_and_counted.Goals as goal

pub array-requires : goal.array-requires
array-requires g c = (c.write-2.new.buffer.cells, rw (c.finish-2.ensures, c.finish.ensures, c.begin-second.ensures.changed, c.begin-first.ensures.changed, c.in_ok-workspace.ensures) refl)
