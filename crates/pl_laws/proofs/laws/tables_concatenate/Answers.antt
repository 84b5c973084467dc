use Rattle.pl_laws.proofs.Chunks.{table-split}
use Rattle.pl_laws.proofs.laws.tables_concatenate.Goals as goal

pub returns : goal.returns
returns c w p from mid to low high = table-split w p from mid to low high
