use Rattle.pl_laws.proofs.NoEvents.{bar_window-raw}
use Rattle.pl_laws.proofs.laws.raw_without_events.Goals as goal

pub returns : goal.returns
returns c w column size a d e = bar_window-raw w column size a d e
