use Rattle.std.proofs.Common.{◌%◌, ◌/◌, length, arith, ap, append_assoc, length-append, take}
use Rattle.std.specs.Fmt.{decimal}
use Rattle.std.proofs.lemmas.Fmt.{decimal_digit}
use Rattle.pl_spec.specs.Dates.{digits}
use Rattle.pl_fixed.proofs.DigitLemmas.{decimal_pair, decimal_two, length-digits}
use Rattle.pl_fixed.proofs.digits.+put_decimal.Goals as goal

pub put-requires : goal.put-requires
put-requires t c = omega (arith, ap length (decimal_digit c.args.n c.if-n-lt10.true))

pub returns-then-n-lt10-clause-end : goal.returns-then-n-lt10-clause-end
returns-then-n-lt10-clause-end t c = omega (arith, c.put.ensures.end, ap length (decimal_digit c.args.n c.if-n-lt10.true))

pub returns-then-n-lt10-clause-text : goal.returns-then-n-lt10-clause-text
returns-then-n-lt10-clause-text t c = rw (decimal_digit c.args.n c.if-n-lt10.true) c.put.ensures.text

pub put_pair-requires-clause-room : goal.put_pair-requires-clause-room
put_pair-requires-clause-room t c =
    let two = decimal_two c.args.n c.if-n-lt10.false c.if-n-lt100.true in
    omega (arith, ap length two, length-digits 2 c.args.n)

pub returns-then-n-lt100-clause-end : goal.returns-then-n-lt100-clause-end
returns-then-n-lt100-clause-end t c =
    let two = decimal_two c.args.n c.if-n-lt10.false c.if-n-lt100.true in
    omega (arith, c.put_pair.ensures.end, ap length two, length-digits 2 c.args.n)

pub returns-then-n-lt100-clause-text : goal.returns-then-n-lt100-clause-text
returns-then-n-lt100-clause-text t c = rw (decimal_two c.args.n c.if-n-lt10.false c.if-n-lt100.true) c.put_pair.ensures.text

pub put_decimal-end-requires : goal.put_decimal-end-requires
put_decimal-end-requires t c =
    let step = decimal_pair c.args.n c.if-n-lt100.false c.ranges.n.fits in
    let len = length-append (decimal (c.args.n / 100)) (digits 2 (c.args.n % 100)) in
    (omega arith, omega (arith, ap length step))

pub put_pair-requires-2-clause-room : goal.put_pair-requires-2-clause-room
put_pair-requires-2-clause-room t c =
    let step = decimal_pair c.args.n c.if-n-lt100.false c.ranges.n.fits in
    let len = length-append (decimal (c.args.n / 100)) (digits 2 (c.args.n % 100)) in
    omega (arith, ap length step, c.put_decimal-end.ensures.end, length-digits 2 (c.args.n % 100))

pub returns-clause-end : goal.returns-clause-end
returns-clause-end t c =
    let step = decimal_pair c.args.n c.if-n-lt100.false c.ranges.n.fits in
    let len = length-append (decimal (c.args.n / 100)) (digits 2 (c.args.n % 100)) in
    omega (arith, ap length step, c.put_decimal-end.ensures.end, c.put_pair-2.ensures.end, length-digits 2 (c.args.n % 100))

pub returns-clause-text : goal.returns-clause-text
returns-clause-text t c =
    let step = decimal_pair c.args.n c.if-n-lt100.false c.ranges.n.fits in
    rw (c.put_pair-2.ensures.text, c.put_decimal-end.ensures.text, step) (append_assoc (take c.args.at c.args.out.now) (decimal (c.args.n / 100)) (digits 2 (c.args.n % 100)))
