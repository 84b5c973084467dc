use Rattle.std.proofs.Common.{arith}
use Rattle.pl_elementary.proofs.Bits.{half, few-bits, next-fits, stepped, ended}
use Rattle.pl_elementary.proofs.logarithm.log_bits.Goals as goal

pub bits-init : goal.bits-init
bits-init c = record { all = omega arith; few = omega arith; fits = c.ranges.start.fits }

pub overflow_add-bits : goal.overflow_add-bits
overflow_add-bits c =
    let i = c.bits.invariant in
    let e = stepped c.bits.bits c.bits.left c.bits.s c.args.start (omega (arith, c.bits-test.true)) i.few i.fits i.all in
    rw c.bit.ensures (record { fits = omega (arith, e, few-bits 60 c.args.start) })

pub bits-preserved : goal.bits-preserved
bits-preserved c =
    let i = c.bits.invariant in
    let e = stepped c.bits.bits c.bits.left c.bits.s c.args.start (omega (arith, c.bits-test.true)) i.few i.fits i.all in
    let squares = c.squared_half-s.ensures (half c.bits.s) c.twice_halved.ensures in
    record {
      all = rw (c.bit.ensures, squares) e;
      few = omega (arith, i.few);
      fits = rw squares (next-fits c.bits.s i.fits);
    }

pub returns-clause-value : goal.returns-clause-value
returns-clause-value c = ended c.bits.bits c.bits.left c.bits.s c.args.start (omega (arith, c.bits-test.false)) c.bits.invariant.all

pub returns-clause-small : goal.returns-clause-small
returns-clause-small c = rw (returns-clause-value c) (few-bits 60 c.args.start)
