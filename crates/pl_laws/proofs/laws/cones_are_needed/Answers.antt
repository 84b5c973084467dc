use Rattle.pl_laws.proofs.Cones.{cone-needed, border-needed}
use Rattle.pl_laws.proofs.laws.cones_are_needed.Goals as goal

pub returns : goal.returns
returns c =
    record {
      cone = λ days g outputs from ok t u m s need f. cone-needed days g outputs from ok t s need f;
      border = λ days g outputs from ok t b m s need f. border-needed days g outputs from ok t s need f;
    }
