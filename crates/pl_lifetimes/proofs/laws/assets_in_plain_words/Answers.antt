use Rattle.pl_lifetimes.proofs.AssetsSaid.{assets_judged, assets-are, assets-fault}
use Rattle.pl_lifetimes.proofs.laws.assets_in_plain_words.Goals as goal

pub returns-clause-record : goal.returns-clause-record
returns-clause-record c = assets_judged

pub returns-clause-assets : goal.returns-clause-assets
returns-clause-assets c = assets-are

pub returns-clause-fault : goal.returns-clause-fault
returns-clause-fault c = assets-fault
