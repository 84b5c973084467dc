use Rattle.std.proofs.Common.{arith}
use Rattle.pl_terms.proofs.Graphs.{columns-long}
use Rattle.pl_table.proofs.tile.width_of.Goals as goal

pub overflow_add-result : goal.overflow_add-result
overflow_add-result c = omega (arith, c.columns.ensures, columns-long c.args.outcome.now.asked.checked.now.columns, c.requires.asked.checked.few_columns)

pub returns-clause-value : goal.returns-clause-value
returns-clause-value c = omega (arith, c.columns.ensures, columns-long c.args.outcome.now.asked.checked.now.columns)

pub returns-clause-few : goal.returns-clause-few
returns-clause-few c = omega (arith, c.columns.ensures, columns-long c.args.outcome.now.asked.checked.now.columns, c.requires.asked.checked.few_columns)
