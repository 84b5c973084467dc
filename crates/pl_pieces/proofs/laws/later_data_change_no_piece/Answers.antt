use Rattle.pl_pieces.proofs.Printed.{later-data-change-no-piece}
use Rattle.pl_pieces.proofs.laws.later_data_change_no_piece.Goals as goal

pub returns : goal.returns
returns c = later-data-change-no-piece
