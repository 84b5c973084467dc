use Rattle.pl_assets.proofs.LabelsSaid.{labels_judged, labels-are, labels-fault}
use Rattle.pl_assets.proofs.laws.labels_in_plain_words.Goals as goal

pub returns-clause-record : goal.returns-clause-record
returns-clause-record c = labels_judged

pub returns-clause-labels : goal.returns-clause-labels
returns-clause-labels c = labels-are

pub returns-clause-fault : goal.returns-clause-fault
returns-clause-fault c = labels-fault
