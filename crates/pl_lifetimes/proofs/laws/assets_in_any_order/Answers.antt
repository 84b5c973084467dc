use Rattle.pl_lifetimes.proofs.AssetsMoved.{assets-moved}
use Rattle.pl_lifetimes.proofs.laws.assets_in_any_order.Goals as goal

pub returns : goal.returns
returns c = assets-moved
