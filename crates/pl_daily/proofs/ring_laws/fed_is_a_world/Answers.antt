use Rattle.pl_daily.proofs.Fed.{fed_is_a_world}
use Rattle.pl_daily.proofs.ring_laws.fed_is_a_world.Goals as goal

pub returns : goal.returns
returns c = fed_is_a_world
