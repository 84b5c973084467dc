use Rattle.pl_pipeline.proofs.Greatest.{greatest-least}
use Rattle.pl_laws.proofs.list_laws.greatest_is_least.Goals as goal

pub returns : goal.returns
returns c = greatest-least
