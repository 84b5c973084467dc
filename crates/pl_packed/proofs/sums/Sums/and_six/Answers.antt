use Rattle.pl_packed.proofs.WordSums.{six-more}
use Rattle.pl_packed.proofs.sums.Sums.and_six.Goals as goal

pub returns : goal.returns
returns c = λ words h.
    six-more c.and-6.result words c.args.six.now c.told-six
    (c.and-6.ensures _ (c.and-5.ensures _ (c.and-4.ensures _ (c.and-3.ensures _ (c.and-2.ensures _ (c.and.ensures words h))))))
