use Rattle.std.proofs.Common.{[], ◌∷◌, codes}
use Rattle.pl_outside.proofs.Pieces.{writes-over}
use Rattle.pl_cli.proofs.Verified.{pieces-are}
use Rattle.pl_cli.proofs.derivations.write_wrong.Goals as goal

pub returns-clause-writes : goal.returns-clause-writes
returns-clause-writes g c = rw (← c.format.ensures.text) (writes-over (pieces-are (codes "no ") c.format.result.now (10 ∷ [])) c.write_in_pieces.ensures.writes)
