use Rattle.pl_laws.proofs.Lows.{reaches-meet}
use Rattle.pl_laws.proofs.laws.reaches_meet.Goals as goal

pub returns : goal.returns
returns c days rise g outputs from ok wide t s inside needs = reaches-meet days rise g ok wide outputs from t s inside needs
