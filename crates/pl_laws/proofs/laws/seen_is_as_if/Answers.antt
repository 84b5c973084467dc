use Rattle.pl_laws.proofs.Views.{as-if-value}
use Rattle.pl_laws.proofs.laws.seen_is_as_if.Goals as goal

pub returns : goal.returns
returns c w u v is names t h a = as-if-value w u v is names a t h
