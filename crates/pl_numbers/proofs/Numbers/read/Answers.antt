use Rattle.pl_numbers.proofs.NumberTables.{are_numbers}
use Rattle.pl_numbers.proofs.Numbers.read.Goals as goal

pub returns-clause-numbers : goal.returns-clause-numbers
returns-clause-numbers c = are_numbers c.in_ok-rows.rows c.in_ok-rows.ensures.table
