use Rattle.std.proofs.Common.{◌+◌, ◌/◌, ◌%◌, ◌∷◌, [], take, append_assoc}
use Rattle.pl_fixed.proofs.DigitLemmas.{digits_two}
use Rattle.pl_fixed.proofs.PairTable.{pair_in_table}
use Rattle.pl_fixed.proofs.digits.put_pair.Goals as goal

pub returns-clause-text : goal.returns-clause-text
returns-clause-text c =
    let pair = pair_in_table c.args.n c.requires.small in
    rw (c.put.ensures.text, c.put-next.ensures.text, pair.0, pair.1, digits_two c.args.n c.requires.small)
    (append_assoc (take c.args.at c.args.out.now) ((48 + c.args.n / 10) ∷ []) ((48 + c.args.n % 10) ∷ []))
