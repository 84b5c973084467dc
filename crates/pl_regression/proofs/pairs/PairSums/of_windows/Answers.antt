use Rattle.std.proofs.Common.{◌≡◌, ℤ, pos, take, get_or, arith, ap, ap₂, sym, ◌∙◌}
use Rattle.pl_lanes.proofs.Bits.{at-exact}
use Rattle.pl_pipeline.specs.Formula.{PairSums, pair_sums}
use Rattle.pl_regression.specs.Sums.{added, AreSums}
use Rattle.pl_regression.proofs.Adding.{added_next, all_pairs, front_within}
use Rattle.pl_regression.proofs.pairs.PairSums.of_windows.Goals as goal

pub add-requires-clause-sums : goal.add-requires-clause-sums
add-requires-clause-sums c =
    let xs = c.args.xs.now in
    let ys = c.args.ys.now in
    let at = c.loop-at.at in
    let so_far : c.loop-at.sums ≡ pair_sums (take at xs) (take at ys) = c.loop-at.invariant in
    rw so_far (front_within xs ys at c.requires.cells c.requires.others (omega arith))

pub loop-at-preserved : goal.loop-at-preserved
loop-at-preserved c =
    let xs = c.args.xs.now in
    let ys = c.args.ys.now in
    let at = c.loop-at.at in
    c.add.ensures ∙ ap₂ (λ (u v : ℤ). added c.loop-at.sums u v) (at-exact xs at c.requires.cells) (at-exact ys at c.requires.others)
    ∙ ap (λ (s : PairSums). added s (get_or xs at (pos 0)) (get_or ys at (pos 0))) c.loop-at.invariant
    ∙ sym (added_next xs ys at (omega arith) c.requires.paired)

pub returns : goal.returns
returns c =
    let xs = c.args.xs.now in
    let ys = c.args.ys.now in
    let at = c.loop-at.at in
    let so_far : c.loop-at.sums ≡ pair_sums (take at xs) (take at ys) = c.loop-at.invariant in
    let small : AreSums c.loop-at.sums = rw so_far (front_within xs ys at c.requires.cells c.requires.others (omega arith)) in
    record { value = so_far ∙ all_pairs xs ys at (omega arith) (omega arith) c.requires.paired; small = small }
