use Rattle.pl_invariance.proofs.Pipelines.{pipelines-have-units}
use Rattle.pl_invariance.proofs.laws.pipelines_have_units.Goals as goal

pub returns : goal.returns
returns c = pipelines-have-units
