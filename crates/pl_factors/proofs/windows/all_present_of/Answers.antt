use Rattle.std.proofs.Common.{◌≡◌, nat_le, length, true, false, refl, sym, arith}
use Rattle.std.proofs.lemmas.Bool.Decides.{nat_tests}
use Rattle.pl_spec.specs.Cells.{count}
use Rattle.pl_lanes.proofs.Cells.{few-present}
use Rattle.pl_factors.proofs.Counting.{all-present}
use Rattle.pl_factors.proofs.windows.all_present_of.Goals as goal

pub returns-then-number-cells-clause-value : goal.returns-then-number-cells-clause-value
returns-then-number-cells-clause-value c =
    let xs = c.args.cells.now in
    let all : nat_le (length xs) (count xs) ≡ true = grind (arith, nat_tests) in
    rw (sym (all-present xs), all) refl

pub returns-else-number-cells-clause-value : goal.returns-else-number-cells-clause-value
returns-else-number-cells-clause-value c =
    let xs = c.args.cells.now in
    let few = few-present xs in
    let some : nat_le (length xs) (count xs) ≡ false = grind (arith, nat_tests) in
    rw (sym (all-present xs), some) refl
