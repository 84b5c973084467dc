use Rattle.pl_laws.proofs.ConeLists.{cone-sound, cone-complete, border-sound, border-complete}
use Rattle.pl_laws.proofs.laws.cones_are_listed.Goals as goal

pub returns : goal.returns
returns c =
    record {
      cone = λ g ok t u. (cone-sound g ok t u, cone-complete g ok t u);
      border = λ g ok t b. (border-sound g ok t b, border-complete g ok t b);
    }
