use Rattle.pl_laws.proofs.ConeDepths.{depths-sound, depths-greatest, depths-once}
use Rattle.pl_laws.proofs.laws.depths_are_greatest.Goals as goal

pub returns : goal.returns
returns c =
    record {
      listed = λ g ok t u m h. depths-sound g ok t u m h;
      greatest = λ g ok t u k f. depths-greatest g ok t u k f;
      once = λ g ok t u m k h i. depths-once g ok t u m k h i;
    }
