use Rattle.pl_laws.proofs.Law.{agree-seen, seen_agree}
use Rattle.pl_laws.proofs.laws.seen_agree.Goals as goal

pub returns : goal.returns
returns c w v d day ok ok2 agree names t view a s from by = seen_agree w v d day ok ok2 (agree-seen w v d day agree) names t view a s (record { from = from; by = by })
