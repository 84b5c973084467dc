use Rattle.pl_pieces.proofs.Covered.{commands-cover-the-range}
use Rattle.pl_pieces.proofs.laws.commands_cover_the_range.Goals as goal

pub returns : goal.returns
returns c = commands-cover-the-range
