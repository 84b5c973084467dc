use Rattle.pl_laws.proofs.OneSession.{one-itself}
use Rattle.pl_laws.proofs.list_laws.one_is_itself.Goals as goal

pub returns : goal.returns
returns c = one-itself
