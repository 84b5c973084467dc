use Rattle.pl_invariance.proofs.OneAsset.{one-asset-for-all}
use Rattle.pl_invariance.proofs.laws.one_asset_for_all.Goals as goal

pub returns : goal.returns
returns c = one-asset-for-all
