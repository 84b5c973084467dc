use Rattle.pl_terms.specs.Checked.{pipeline_of}
use Rattle.pl_daily.specs.Room.{AreBegun}
use Rattle.pl_daily.proofs.room.begin_terms.Given as goal

abbrev pub invariant-loop-k : goal.invariant-loop-k
invariant-loop-k l = AreBegun l.assets (pipeline_of l.checked) l.k l.terms.items
