use Rattle.pl_numbers.proofs.NumberRowsMade.{no_rows, no_numbers}
use Rattle.pl_numbers.proofs.stated.stated_rows.Goals as goal

pub put_file-requires-clause-none : goal.put_file-requires-clause-none
put_file-requires-clause-none c = no_rows c.new-rows.result c.new-rows.ensures.places

pub put_file-requires-clause-numbered : goal.put_file-requires-clause-numbered
put_file-requires-clause-numbered c = no_numbers c.new-rows.result c.new-rows.ensures.names c.new-rows.ensures.places
