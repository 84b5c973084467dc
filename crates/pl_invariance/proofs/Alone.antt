-- What a number beside bars rests on.
use Rattle.std.proofs.Common.{refl}
use Rattle.pl_pipeline.specs.Value.{kind_value, seen, value}
use Rattle.pl_invariance.specs.Alone.{NumbersStandAlone}

pub numbers-stand-alone : NumbersStandAlone
unfolding value seen kind_value
numbers-stand-alone w labels texts bars adjustments names f n a d = refl
