use Rattle.pl_pipeline.proofs.SortedValues.{sorted-value_at}
use Rattle.pl_laws.proofs.list_laws.values_are_sorted.Goals as goal

pub returns : goal.returns
returns c = sorted-value_at
