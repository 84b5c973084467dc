use Rattle.pl_laws.proofs.Law as law
use Rattle.pl_laws.proofs.laws.values_agree.Goals as goal

pub returns : goal.returns
returns c w v d day ok ok' agree names t = law.values_agree w v d day ok ok' (law.agree-seen w v d day agree) names t
