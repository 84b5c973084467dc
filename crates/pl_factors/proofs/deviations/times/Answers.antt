use Rattle.std.proofs.Common.{FitsSigned}
use Rattle.std.specs.Int.{w128}
use Rattle.std.proofs.lemmas.Int.{to_z-of_z}
use Rattle.pl_factors.proofs.Exact.{exact, fits, product-within}
use Rattle.pl_factors.proofs.deviations.times.Goals as goal

pub returns-clause-value : goal.returns-clause-value
returns-clause-value c =
    let fm : FitsSigned w128 c.args.middle = c.ranges.middle in
    let fx : FitsSigned w128 c.args.x = c.ranges.x in
    let p = product-within c.args.middle c.args.x c.requires.middle c.requires.other in
    rw (to_z-of_z w128 _ fm, to_z-of_z w128 _ fx) (exact _ p.1)

pub returns-clause-small : goal.returns-clause-small
returns-clause-small c =
    let p = product-within c.args.middle c.args.x c.requires.middle c.requires.other in
    rw (returns-clause-value c) p.0

pub overflow_mul-result : goal.overflow_mul-result
overflow_mul-result c =
    let fm : FitsSigned w128 c.args.middle = c.ranges.middle in
    let fx : FitsSigned w128 c.args.x = c.ranges.x in
    let p = product-within c.args.middle c.args.x c.requires.middle c.requires.other in
    rw (to_z-of_z w128 _ fm, to_z-of_z w128 _ fx) (fits _ p.1)
