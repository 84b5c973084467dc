use Rattle.pl_spec.proofs.Buffer.{seen_next}
use Rattle.pl_laws.proofs.laws.buffer_steps.Goals as goal

pub returns : goal.returns
returns c w ok a col s d low mid high = seen_next w a col s d low mid high ok
