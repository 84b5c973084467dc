use Rattle.pl_bench.proofs.Days.{are_days}
use Rattle.pl_bench.proofs.sessions.make_sessions.Goals as goal

pub from_days-requires : goal.from_days-requires
from_days-requires c = rw c.in_ok-days.ensures are_days
