use Rattle.pl_pipeline.proofs.Ranks.{ranks-between}
use Rattle.pl_laws.proofs.list_laws.ranks_are_between.Goals as goal

pub returns : goal.returns
returns c = ranks-between
