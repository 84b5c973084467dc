use Rattle.pl_syntax.proofs.Reading.{one_way}
use Rattle.pl_syntax.proofs.token_laws.one_reading.Goals as goal

pub returns : goal.returns
returns c = one_way
