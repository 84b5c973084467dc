use Rattle.pl_assets.proofs.LabelsMoved.{labels-moved}
use Rattle.pl_assets.proofs.laws.labels_in_any_order.Goals as goal

pub returns : goal.returns
returns c = labels-moved
