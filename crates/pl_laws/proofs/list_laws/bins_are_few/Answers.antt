use Rattle.pl_pipeline.proofs.Bins.{bins-few}
use Rattle.pl_laws.proofs.list_laws.bins_are_few.Goals as goal

pub returns : goal.returns
returns c = bins-few
