use Rattle.pl_terms.specs.Checked.{pipeline_of}
use Rattle.pl_daily.proofs.Depths.{AreDeepened}
use Rattle.pl_daily.proofs.capacities.depths_of.Given as goal

abbrev pub invariant-loop-k : goal.invariant-loop-k
invariant-loop-k l = AreDeepened (pipeline_of l.checked) l.k l.depths.items
