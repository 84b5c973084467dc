use Rattle.pl_cut.proofs.Cuts.{pieces_make_the_table}
use Rattle.pl_cut.proofs.laws.pieces_make_the_table.Goals as goal

pub returns : goal.returns
returns c = pieces_make_the_table
