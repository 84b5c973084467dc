use Rattle.pl_terms.specs.Checked.{pipeline_of}
use Rattle.pl_daily.specs.Room.{AreBegunStarts}
use Rattle.pl_daily.proofs.room.begin_starts.Given as goal

abbrev pub invariant-loop-k : goal.invariant-loop-k
invariant-loop-k l = AreBegunStarts l.assets (pipeline_of l.checked) l.k l.starts.items
