use Rattle.std.proofs.Common.{true, false}
use Rattle.pl_factors.proofs.Sliding.{sum-slides, count-slides, products-slide, placed-slides, swings-slide}
use Rattle.pl_factors.proofs.laws.sums_slide.Goals as goal

pub returns : goal.returns
returns c = record { sum = sum-slides; count = count-slides; products = products-slide; placed = placed-slides; gains = swings-slide false; losses = swings-slide true }
