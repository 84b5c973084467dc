use Rattle.pl_laws.proofs.Uses.{used_terms-sound, used_terms-complete}
use Rattle.pl_laws.proofs.laws.used_are_listed.Goals as goal

pub returns : goal.returns
returns c g outputs ok k = (used_terms-sound g outputs ok k, used_terms-complete g outputs ok k)
