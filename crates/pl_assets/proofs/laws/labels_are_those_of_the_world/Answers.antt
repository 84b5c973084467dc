use Rattle.pl_assets.proofs.LabelWorlds.{labels_those}
use Rattle.pl_assets.proofs.laws.labels_are_those_of_the_world.Goals as goal

pub returns : goal.returns
returns c = labels_those
