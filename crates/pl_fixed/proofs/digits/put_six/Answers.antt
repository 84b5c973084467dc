use Rattle.std.proofs.Common.{◌/◌, ◌%◌, ◌++◌, take, append_assoc}
use Rattle.pl_spec.specs.Dates.{digits}
use Rattle.pl_fixed.proofs.DigitLemmas.{digits_six}
use Rattle.pl_fixed.proofs.digits.put_six.Goals as goal

pub returns-clause-text : goal.returns-clause-text
returns-clause-text c =
    let front = take c.args.at c.args.out.now in
    let high = digits 2 (c.args.n / 10_000) in
    let middle = digits 2 (c.args.n / 100 % 100) in
    let low = digits 2 (c.args.n % 100) in
    rw (c.put_pair.ensures.text, c.put_pair-middle.ensures.text, c.put_pair-high.ensures.text, digits_six c.args.n, append_assoc front high middle)
    (append_assoc front (high ++ middle) low)
