use Rattle.std.proofs.Common.{refl}
use Rattle.pl_packed.proofs.WordSums.{sums-more}
use Rattle.pl_packed.proofs.sums.Sums.and.Goals as goal

pub returns : goal.returns
returns c = λ words h. sums-more c.args.self words c.args.word _ _ h refl refl
