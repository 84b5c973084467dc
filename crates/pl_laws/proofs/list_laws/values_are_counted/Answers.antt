use Rattle.pl_pipeline.proofs.SortedValues.{value_at-counted, counted-is-value_at}
use Rattle.pl_laws.proofs.list_laws.values_are_counted.Goals as goal

pub returns : goal.returns
returns c vs i v h = (value_at-counted vs i h, counted-is-value_at vs i v h)
