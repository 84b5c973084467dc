use Rattle.pl_payouts.proofs.PayoutsRead.{payouts_judged, payouts-are, payouts-fault}
use Rattle.pl_payouts.proofs.laws.payouts_in_plain_words.Goals as goal

pub returns-clause-record : goal.returns-clause-record
returns-clause-record c = payouts_judged

pub returns-clause-payouts : goal.returns-clause-payouts
returns-clause-payouts c = payouts-are

pub returns-clause-fault : goal.returns-clause-fault
returns-clause-fault c = payouts-fault
