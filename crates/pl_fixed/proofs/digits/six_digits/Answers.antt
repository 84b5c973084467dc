use Rattle.pl_fixed.proofs.DigitLemmas.{six_digits-pairs}
use Rattle.pl_fixed.proofs.digits.six_digits.Goals as goal

pub returns-clause-digits : goal.returns-clause-digits
returns-clause-digits c =
    let it = six_digits-pairs c.args.b.now c.in_ok-high.high c.in_ok-middle.middle c.in_ok-low.low c.if-b-ne6.false c.in_ok-high.ensures.found c.in_ok-middle.ensures.found c.in_ok-low.ensures.found in
    it.digits

pub returns-clause-number : goal.returns-clause-number
returns-clause-number c =
    let it = six_digits-pairs c.args.b.now c.in_ok-high.high c.in_ok-middle.middle c.in_ok-low.low c.if-b-ne6.false c.in_ok-high.ensures.found c.in_ok-middle.ensures.found c.in_ok-low.ensures.found in
    rw (c.from.ensures, c.from-2.ensures, c.from-3.ensures) it.number
