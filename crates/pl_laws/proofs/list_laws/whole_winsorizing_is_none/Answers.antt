use Rattle.pl_laws.proofs.Winsorized.{whole-winsorizing}
use Rattle.pl_laws.proofs.list_laws.whole_winsorizing_is_none.Goals as goal

pub returns : goal.returns
returns c = whole-winsorizing
