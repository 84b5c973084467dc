use Rattle.pl_pieces.proofs.Printed.{parts-read-back}
use Rattle.pl_pieces.proofs.laws.parts_read_back.Goals as goal

pub returns : goal.returns
returns c = parts-read-back
