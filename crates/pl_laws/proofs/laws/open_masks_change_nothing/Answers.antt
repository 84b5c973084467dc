use Rattle.pl_laws.proofs.Masks.{value-open}
use Rattle.pl_laws.proofs.laws.open_masks_change_nothing.Goals as goal

pub returns : goal.returns
returns c w names mask open_to_all kind size x y z group a d = value-open w names kind size x y z mask group open_to_all a d
