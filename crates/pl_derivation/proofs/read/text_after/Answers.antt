use Rattle.std.proofs.Common.{◌+◌}
use Rattle.std.proofs.lemmas.List.{take_rest}
use Rattle.pl_derivation.proofs.read.text_after.Goals as goal

pub returns-clause-rest : goal.returns-clause-rest
returns-clause-rest c = take_rest c.args.text.now (c.args.at + 1)
