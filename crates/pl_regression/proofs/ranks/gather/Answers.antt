use Rattle.std.proofs.Common.{◌≡◌, ◌≤◌, ◌<◌, ◌+◌, refl, ap, sym, ◌∙◌, arith, rules, length, take, w64, to_z, of_z, pos, get_or}
use Rattle.pl_pipeline.specs.Formula.{present_pairs}
use Rattle.pl_lanes.proofs.Bits.{at-exact}
use Rattle.pl_regression.specs.Ranks.{firsts, seconds}
use Rattle.pl_regression.proofs.Ranking.{first_yes, second_yes, pairs_no}
use Rattle.pl_regression.proofs.ranks.gather.Goals as goal
use Rattle.pl_regression.proofs.ranks.gather.Goals.{then-are_present, else-are_present}

pub loop-at-preserved : goal.loop-at-preserved
loop-at-preserved c =
    let xs = c.args.xs.now in
    let ys = c.args.ys.now in
    let at = c.loop-at.at in
    let h : at < length xs = c.loop-at-test.true in
    let x : to_z w64 (of_z w64 (get_or xs at (pos 0))) ≡ get_or xs at (pos 0) = at-exact xs at c.requires.cells in
    let y : to_z w64 (of_z w64 (get_or ys at (pos 0))) ≡ get_or ys at (pos 0) = at-exact ys at c.requires.others in
    let i = c.loop-at.invariant in
    let few : c.if-are_present.count ≤ at + 1 = elim c.if-are_present.branch [ then-are_present w ↦ omega (arith, i.few) | else-are_present w ↦ omega (arith, i.few) ] in
    let inside : c.loop-at.count < length c.loop-at.first = omega (arith, i.few, i.first_long, c.requires.first, h) in
    let within : c.loop-at.count < length c.loop-at.second = omega (arith, i.few, i.second_long, c.requires.second, h) in
    let first : take c.if-are_present.count c.if-are_present.first ≡ firsts (present_pairs (take (at + 1) xs) (take (at + 1) ys)) =
    elim c.if-are_present.branch [
      | then-are_present w ↦ rw (w.count-is, w.first-is) (first_yes xs ys at c.loop-at.count _ _ h c.requires.paired x y c.loop-at.first _ refl (sym c.are_present.ensures ∙ w.if-are_present.true) inside i.first)
      | else-are_present w ↦ rw (w.count-is, w.first-is) (i.first ∙ ap firsts (pairs_no xs ys at c.loop-at.count _ _ h c.requires.paired x y (sym c.are_present.ensures ∙ w.if-are_present.false)))
    ] in
    let second : take c.if-are_present.count c.if-are_present.second ≡ seconds (present_pairs (take (at + 1) xs) (take (at + 1) ys)) =
    elim c.if-are_present.branch [
      | then-are_present w ↦ rw (w.count-is, w.second-is) (second_yes xs ys at c.loop-at.count _ _ h c.requires.paired x y c.loop-at.second _ refl (sym c.are_present.ensures ∙ w.if-are_present.true) within i.second)
      | else-are_present w ↦ rw (w.count-is, w.second-is) (i.second ∙ ap seconds (pairs_no xs ys at c.loop-at.count _ _ h c.requires.paired x y (sym c.are_present.ensures ∙ w.if-are_present.false)))
    ] in
    record { first_long = search rules; second_long = search rules; few = few; first = first; second = second }
