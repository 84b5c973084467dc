use Rattle.std.proofs.Common.{arith}
use Rattle.pl_elementary.proofs.Sizes.{sized, moved}
use Rattle.pl_elementary.proofs.logarithm.binary_log.Goals as goal

pub overflow_sub-size-2 : goal.overflow_sub-size-2
overflow_sub-size-2 c =
    let h = sized c.args.v c.requires.some c.requires.small in
    rw h.size (omega (arith, h.few))

pub part_log-requires : goal.part_log-requires
part_log-requires c =
    let h = sized c.args.v c.requires.some c.requires.small in
    rw (moved _ _ h) h.fits

pub returns-clause-value : goal.returns-clause-value
returns-clause-value c =
    let h = sized c.args.v c.requires.some c.requires.small in
    let e = rw (moved _ _ h) at c.part_log.ensures.value in
    rw (h.size, e)
