use Rattle.std.proofs.Common.{◌+◌, ap, sym, ◌∙◌, arith, take, sum_by, w64, to_z, of_z}
use Rattle.std.proofs.lemmas.Int.{to_z-of_z}
use Rattle.std.proofs.lemmas.List.{length-take, take_all}
use Rattle.pl_spec.specs.Cells.{present_values}
use Rattle.pl_pipeline.specs.Order.{twice_rank}
use Rattle.pl_regression.specs.Ranks.{share}
use Rattle.pl_regression.proofs.Ranking.{shares, shares_few}
use Rattle.pl_regression.proofs.ranks.twice_rank.Goals as goal

pub overflow_add-rank : goal.overflow_add-rank
overflow_add-rank c =
    let so_far = take c.loop-at.at c.args.cells.now in
    let few = shares_few (to_z w64 (of_z w64 c.args.x)) so_far in
    omega (arith, c.loop-at.invariant, few, length-take c.loop-at.at c.args.cells.now, c.share-rank.ensures.few, c.requires.few)

pub returns-clause-value : goal.returns-clause-value
returns-clause-value c =
    let x = to_z w64 (of_z w64 c.args.x) in
    c.loop-at.invariant ∙ ap (λ l. 1 + sum_by (share x) l) (take_all c.loop-at.at c.args.cells.now (omega (arith, c.loop-at-test.false)))
    ∙ sym (shares x c.args.cells.now) ∙ ap (λ v. twice_rank v (present_values c.args.cells.now)) (to_z-of_z w64 c.args.x c.ranges.x)

pub returns-clause-few : goal.returns-clause-few
returns-clause-few c =
    let so_far = take c.loop-at.at c.args.cells.now in
    let few = shares_few (to_z w64 (of_z w64 c.args.x)) so_far in
    omega (arith, c.loop-at.invariant, few, length-take c.loop-at.at c.args.cells.now)
