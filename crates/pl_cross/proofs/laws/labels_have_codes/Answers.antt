use Rattle.pl_cross.proofs.LabelCodes.{labels-coded}
use Rattle.pl_cross.proofs.laws.labels_have_codes.Goals as goal

pub returns : goal.returns
returns c w names n size x y z mask group d texts a = labels-coded w texts names n size x y z mask group a d
