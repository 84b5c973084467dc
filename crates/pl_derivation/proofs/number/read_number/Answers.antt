use Rattle.pl_derivation.proofs.Numbers.{as_number}
use Rattle.pl_derivation.proofs.number.read_number.Goals as goal

pub returns-clause-exact : goal.returns-clause-exact
returns-clause-exact c = as_number c.args.text.now c.signed_of.result c.signed_of.ensures.found c.signed_of.ensures.only
