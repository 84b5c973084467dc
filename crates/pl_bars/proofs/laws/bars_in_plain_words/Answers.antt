use Rattle.pl_bars.proofs.BarsSaid.{bars_judged, bars-are, bars-fault}
use Rattle.pl_bars.proofs.laws.bars_in_plain_words.Goals as goal

pub returns-clause-record : goal.returns-clause-record
returns-clause-record c = bars_judged

pub returns-clause-bars : goal.returns-clause-bars
returns-clause-bars c = bars-are

pub returns-clause-fault : goal.returns-clause-fault
returns-clause-fault c = bars-fault
