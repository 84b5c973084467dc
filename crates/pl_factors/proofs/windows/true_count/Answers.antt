use Rattle.std.proofs.Common.{◌≤◌, rules, arith, refl, FitsSigned}
use Rattle.std.specs.Int.{w128}
use Rattle.std.specs.List.{count_by}
use Rattle.std.proofs.lemmas.Int.{to_z-of_z}
use Rattle.std.proofs.lemmas.List.Sums.{count_by-le-length}
use Rattle.pl_spec.specs.Limits.{most_window}
use Rattle.pl_spec.specs.Cells.{is_true}
use Rattle.pl_factors.proofs.Counting.{flags-total}
use Rattle.pl_factors.proofs.windows.true_count.Goals as goal

pub overflow_cast-result : goal.overflow_cast-result
overflow_cast-result c =
    let fits : FitsSigned w128 c.args.sum = c.ranges.sum in
    let few : count_by is_true c.args.flags.now ≤ most_window =
    omega (arith, count_by-le-length is_true c.args.flags.now, c.requires.few) in
    rw (to_z-of_z w128 _ fits, c.requires.sum, flags-total _ c.requires.flags)
    (search (rules, few))

pub returns : goal.returns
returns c =
    let fits : FitsSigned w128 c.args.sum = c.ranges.sum in
    rw (to_z-of_z w128 _ fits, c.requires.sum, flags-total _ c.requires.flags) refl
