use Rattle.pl_spec.proofs.SidsRead.{sid_in-decimal, decimal-sid_in}
use Rattle.pl_laws.proofs.laws.sids_are_read.Goals as goal

pub returns : goal.returns
returns c text sid = (sid_in-decimal text sid, decimal-sid_in text sid)
