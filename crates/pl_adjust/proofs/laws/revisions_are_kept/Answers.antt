use Rattle.pl_adjust.proofs.RevisedColumns.{revised_events}
use Rattle.pl_adjust.proofs.laws.revisions_are_kept.Goals as goal

pub returns : goal.returns
returns c = revised_events
