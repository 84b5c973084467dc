use Rattle.pl_values.proofs.Texts.{texts-coded}
use Rattle.pl_values.proofs.laws.texts_have_codes.Goals as goal

pub returns : goal.returns
returns c = texts-coded
