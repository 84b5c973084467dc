use Rattle.pl_fixed.proofs.DigitLemmas.{two_digits-pair}
use Rattle.pl_fixed.proofs.digits.two_digits.Goals as goal

pub returns-clause-digits : goal.returns-clause-digits
returns-clause-digits c = (two_digits-pair c.args.b.now c.in_ok-number.number c.if-b-ne2.false c.in_ok-number.ensures.found).digits

pub returns-clause-number : goal.returns-clause-number
returns-clause-number c =
    rw c.from.ensures (two_digits-pair c.args.b.now c.in_ok-number.number c.if-b-ne2.false c.in_ok-number.ensures.found).number
