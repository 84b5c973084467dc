use Rattle.std.proofs.Common.{true, false}
use Rattle.pl_factors.proofs.Peaks.{best-moves}
use Rattle.pl_factors.proofs.laws.extremes_slide.Goals as goal

pub returns : goal.returns
returns c = record { greatest = best-moves false; least = best-moves true }
