use Rattle.std.proofs.Common.{◌∙◌, sym}
use Rattle.pl_numbers.proofs.NumberSearch.{point_here}
use Rattle.pl_numbers.proofs.search.point_onward.Goals as goal

pub returns-else-is_low-clause-point : goal.returns-else-is_low-clause-point
returns-else-is_low-clause-point c =
    point_here c.args.places.now c.args.key c.loop-at.at _ c.requires.rise c.loop-at.invariant.low c.loop-at-test.true (sym c.is_low.ensures ∙ c.if-is_low.false)
