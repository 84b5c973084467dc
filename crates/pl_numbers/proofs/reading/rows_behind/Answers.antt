use Rattle.pl_numbers.proofs.NumberRowsMade.{no_rows, no_numbers}
use Rattle.pl_numbers.proofs.reading.rows_behind.Goals as goal

pub put_rows-requires-clause-none : goal.put_rows-requires-clause-none
put_rows-requires-clause-none c = no_rows c.new-rows.result c.new-rows.ensures.places

pub put_rows-requires-clause-numbered : goal.put_rows-requires-clause-numbered
put_rows-requires-clause-numbered c = no_numbers c.new-rows.result c.new-rows.ensures.names c.new-rows.ensures.places
