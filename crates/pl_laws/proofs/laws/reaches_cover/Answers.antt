use Rattle.pl_laws.proofs.Lows.{reach-covers}
use Rattle.pl_laws.proofs.laws.reaches_cover.Goals as goal

pub returns : goal.returns
returns c days g outputs from ok wide = reach-covers days g ok wide outputs from
