use Rattle.pl_spec.proofs.Nearest.{div_round-is_nearest, nearest_is-div_round}
use Rattle.pl_laws.proofs.laws.rounding_is_exact.Goals as goal

pub returns : goal.returns
returns c a b q h = (div_round-is_nearest a b h, nearest_is-div_round a b q h)
