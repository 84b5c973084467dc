use Rattle.pl_laws.proofs.TablesMoved.{table-rows-in-any-order}
use Rattle.pl_laws.proofs.laws.table_rows_in_any_order.Goals as goal

pub returns : goal.returns
returns c = table-rows-in-any-order
