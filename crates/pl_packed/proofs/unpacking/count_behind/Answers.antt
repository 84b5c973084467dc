use Rattle.std.proofs.Common.{◌∙◌, sym, arith}
use Rattle.pl_packed.proofs.WordBytes.{four-same}
use Rattle.pl_packed.proofs.unpacking.count_behind.Goals as goal

pub returns-then-count-gt-MOST_BARS-clause-none : goal.returns-then-count-gt-MOST_BARS-clause-none
returns-then-count-gt-MOST_BARS-clause-none c = λ count few there long.
    let same = four-same count c.four_at-count.result (omega arith) (omega arith) (there ∙ sym c.four_at-count.ensures) in
    absurd (omega (arith, same, c.if-count-gt-MOST_BARS.true))

pub returns-then-rest-count-clause-none : goal.returns-then-rest-count-clause-none
returns-then-rest-count-clause-none c = λ count few there long.
    let same = four-same count c.four_at-count.result (omega arith) (omega arith) (there ∙ sym c.four_at-count.ensures) in
    absurd (omega (arith, same, long, c.if-rest-count.true))
