use Rattle.pl_derivation.proofs.TextsRead.{read}
use Rattle.pl_derivation.proofs.laws.texts_are_read.Goals as goal

pub returns : goal.returns
returns c lines ok some few = read lines ok some few
