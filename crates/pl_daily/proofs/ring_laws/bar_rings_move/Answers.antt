use Rattle.pl_daily.proofs.Moves.{bar_rings_move}
use Rattle.pl_daily.proofs.ring_laws.bar_rings_move.Goals as goal

pub returns : goal.returns
returns c = bar_rings_move
