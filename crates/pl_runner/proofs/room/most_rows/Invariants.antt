use Rattle.std.proofs.Common.{◌^◌, ◌<◌}
use Rattle.pl_terms.specs.Checked.{pipeline_of}
use Rattle.pl_runner.specs.Room.{IsMost}
use Rattle.pl_runner.proofs.room.most_rows.Given as goal

abbrev pub invariant-loop-t : goal.invariant-loop-t
invariant-loop-t l = record { most : IsMost (pipeline_of l.asked.checked.now) l.asked.plan.now l.chunk l.t l.most; few : l.most < 2 ^ 33 }
