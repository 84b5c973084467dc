use Rattle.pl_laws.proofs.AsOf.{parts-of}
use Rattle.pl_laws.proofs.laws.parts_as_of.Goals as goal

pub returns : goal.returns
returns c days assets labels texts bars adjustments numbers d day = parts-of days assets labels texts bars adjustments numbers d day
