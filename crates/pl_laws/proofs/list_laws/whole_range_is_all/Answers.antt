use Rattle.pl_pipeline.proofs.Edges.{whole-range}
use Rattle.pl_laws.proofs.list_laws.whole_range_is_all.Goals as goal

pub returns : goal.returns
returns c = whole-range
