use Rattle.pl_pipeline.proofs.Means.{mean-between}
use Rattle.pl_laws.proofs.list_laws.mean_is_between.Goals as goal

pub returns : goal.returns
returns c = mean-between
