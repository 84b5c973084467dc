use Rattle.pl_lookahead.proofs.Input.{same-input-same-bytes}
use Rattle.pl_lookahead.proofs.laws.same_input_same_bytes.Goals as goal

pub returns : goal.returns
returns c = same-input-same-bytes
