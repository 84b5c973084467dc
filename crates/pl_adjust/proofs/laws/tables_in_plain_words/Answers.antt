use Rattle.pl_adjust.proofs.FirstFaults.{tables_right, tables_fault}
use Rattle.pl_adjust.proofs.laws.tables_in_plain_words.Goals as goal

pub returns-clause-right : goal.returns-clause-right
returns-clause-right c = tables_right

pub returns-clause-fault : goal.returns-clause-fault
returns-clause-fault c = tables_fault
