use Rattle.pl_adjust.proofs.Sids.{table_events}
use Rattle.pl_adjust.proofs.laws.tables_are_kept.Goals as goal

pub returns : goal.returns
returns c = table_events
