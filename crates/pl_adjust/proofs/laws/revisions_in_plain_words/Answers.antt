use Rattle.pl_adjust.proofs.RevisionsRead.{revisions_judged, revisions-are, revisions-fault}
use Rattle.pl_adjust.proofs.laws.revisions_in_plain_words.Goals as goal

pub returns-clause-record : goal.returns-clause-record
returns-clause-record c = revisions_judged

pub returns-clause-revisions : goal.returns-clause-revisions
returns-clause-revisions c = revisions-are

pub returns-clause-fault : goal.returns-clause-fault
returns-clause-fault c = revisions-fault
