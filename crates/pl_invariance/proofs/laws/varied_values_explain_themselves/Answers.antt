use Rattle.pl_invariance.proofs.Varied.{varied-values-explain-themselves}
use Rattle.pl_invariance.proofs.laws.varied_values_explain_themselves.Goals as goal

pub returns : goal.returns
returns c = varied-values-explain-themselves
