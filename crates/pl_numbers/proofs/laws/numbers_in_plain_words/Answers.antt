use Rattle.pl_numbers.proofs.NumbersSaid.{numbers_judged, numbers-are, numbers-fault}
use Rattle.pl_numbers.proofs.laws.numbers_in_plain_words.Goals as goal

pub returns-clause-record : goal.returns-clause-record
returns-clause-record c = numbers_judged

pub returns-clause-numbers : goal.returns-clause-numbers
returns-clause-numbers c = numbers-are

pub returns-clause-fault : goal.returns-clause-fault
returns-clause-fault c = numbers-fault
