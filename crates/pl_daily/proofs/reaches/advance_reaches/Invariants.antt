use Rattle.pl_terms.specs.Checked.{pipeline_of}
use Rattle.pl_daily.proofs.Firsts.{IsTaken}
use Rattle.pl_daily.proofs.reaches.advance_reaches.Given as goal

abbrev pub invariant-loop-k : goal.invariant-loop-k
invariant-loop-k l = IsTaken (pipeline_of l.checked) l.starts l.fed l.fn.since l.k l.since
