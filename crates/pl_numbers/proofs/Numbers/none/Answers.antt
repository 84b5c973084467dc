use Rattle.pl_numbers.proofs.NumberCuts.{no_table}
use Rattle.pl_numbers.proofs.Numbers.none.Goals as goal

pub invariant_of-result : goal.invariant_of-result
invariant_of-result c = no_table c.new.result c.new.ensures.names c.new.ensures.places
