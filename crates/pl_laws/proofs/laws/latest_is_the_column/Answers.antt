use Rattle.pl_laws.proofs.Views.{latest-column}
use Rattle.pl_laws.proofs.laws.latest_is_the_column.Goals as goal

pub returns : goal.returns
returns c w names column size a d there = latest-column w names column size a d there
