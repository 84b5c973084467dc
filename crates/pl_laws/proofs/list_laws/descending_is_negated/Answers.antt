use Rattle.pl_pipeline.proofs.Ranks.{descending-negated}
use Rattle.pl_laws.proofs.list_laws.descending_is_negated.Goals as goal

pub returns : goal.returns
returns c = descending-negated
