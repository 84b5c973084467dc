use Rattle.pl_pipeline.proofs.Filters.{filters-count}
use Rattle.pl_laws.proofs.list_laws.filters_count.Goals as goal

pub returns : goal.returns
returns c = filters-count
