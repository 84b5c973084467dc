use Rattle.pl_pieces.proofs.Printed.{cut-files-have-the-rows, runs-without-results-stay}
use Rattle.pl_pieces.proofs.laws.cut_files_have_the_rows.Goals as goal

pub returns-clause-rows : goal.returns-clause-rows
returns-clause-rows c = cut-files-have-the-rows

pub returns-clause-same : goal.returns-clause-same
returns-clause-same c = runs-without-results-stay
