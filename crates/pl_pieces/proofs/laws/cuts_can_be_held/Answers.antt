use Rattle.pl_pieces.proofs.Printed.{cuts-can-be-held}
use Rattle.pl_pieces.proofs.laws.cuts_can_be_held.Goals as goal

pub returns : goal.returns
returns c = cuts-can-be-held
