use Rattle.std.proofs.Common.{◌≡◌, ℤ, pos, take, get_or, arith, ap, ap₂, sym, ◌∙◌}
use Rattle.pl_lanes.proofs.Bits.{at-exact}
use Rattle.pl_pipeline.specs.Formula.{PairSums, pair_sums, places}
use Rattle.pl_regression.specs.Sums.{added}
use Rattle.pl_regression.proofs.Adding.{added_next, all_pairs, front_within}
use Rattle.pl_regression.proofs.Placing.{place-at, place-cast, places-cells, places-long}
use Rattle.pl_regression.proofs.pairs.PairSums.of_places.Goals as goal

pub add-requires-clause-sums : goal.add-requires-clause-sums
add-requires-clause-sums c =
    let ys = c.args.ys.now in
    let at = c.loop-at.at in
    let so_far : c.loop-at.sums ≡ pair_sums (take at (places ys)) (take at ys) = c.loop-at.invariant in
    rw so_far (front_within (places ys) ys at (places-cells ys (omega (arith, c.requires.few))) c.requires.cells (omega arith))

pub loop-at-preserved : goal.loop-at-preserved
loop-at-preserved c =
    let ys = c.args.ys.now in
    let at = c.loop-at.at in
    let long = places-long ys in
    let place = place-cast at (omega (arith, c.loop-at-test.true, c.requires.few)) ∙ sym (place-at ys at c.loop-at-test.true) in
    c.add.ensures ∙ ap₂ (λ (u v : ℤ). added c.loop-at.sums u v) place (at-exact ys at c.requires.cells)
    ∙ ap (λ (s : PairSums). added s (get_or (places ys) at (pos 0)) (get_or ys at (pos 0))) c.loop-at.invariant
    ∙ sym (added_next (places ys) ys at (omega (arith, long, c.loop-at-test.true)) (sym long))

pub returns-clause-value : goal.returns-clause-value
returns-clause-value c =
    let ys = c.args.ys.now in
    let at = c.loop-at.at in
    c.loop-at.invariant ∙ all_pairs (places ys) ys at (omega (arith, places-long ys)) (omega (arith, places-long ys)) (sym (places-long ys))

pub returns-clause-small : goal.returns-clause-small
returns-clause-small c =
    let ys = c.args.ys.now in
    let at = c.loop-at.at in
    let so_far : c.loop-at.sums ≡ pair_sums (take at (places ys)) (take at ys) = c.loop-at.invariant in
    rw so_far (front_within (places ys) ys at (places-cells ys (omega (arith, c.requires.few))) c.requires.cells (omega arith))
