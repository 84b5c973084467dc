use Rattle.pl_numbers.proofs.NumberTables.{are_numbers}
use Rattle.pl_numbers.proofs.Numbers.len.Goals as goal

pub returns-clause-numbers : goal.returns-clause-numbers
returns-clause-numbers c = rw (← c.self.view_is) (are_numbers c.self.inside.rows c.self.invariant)
