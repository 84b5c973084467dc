use Rattle.pl_adjust.proofs.Sids.{column_events}
use Rattle.pl_adjust.proofs.laws.columns_are_sids.Goals as goal

pub returns : goal.returns
returns c = column_events
