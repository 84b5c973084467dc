use Rattle.std.proofs.Common.{◌-◌, length, rules, arith, ap, sym, ◌∙◌, FitsSigned}
use Rattle.std.specs.Int.{w128}
use Rattle.std.proofs.lemmas.Int.{to_z-of_z}
use Rattle.pl_lanes.proofs.Bits.{at-exact}
use Rattle.pl_factors.specs.Spans.{before, part}
use Rattle.pl_factors.proofs.Bounds.{moved-is, before-cells, before-few, sum-within}
use Rattle.pl_factors.proofs.Sliding.{sum-slides}
use Rattle.pl_factors.proofs.sums.next_sum.Goals as goal

pub moved-requires-clause-sum : goal.moved-requires-clause-sum
moved-requires-clause-sum c =
    let fs : FitsSigned w128 c.args.sum = c.ranges.sum in
    let small = sum-within (before c.args.a.now) (before-cells _ c.requires.cells) (before-few _ c.requires.few) in
    rw (to_z-of_z w128 _ fs, c.requires.is) (omega (arith, small))

pub returns : goal.returns
returns c =
    let xs = c.args.a.now in
    let fr : FitsSigned w128 c.moved.result = search rules in
    let fs : FitsSigned w128 c.args.sum = c.ranges.sum in
    let fp : FitsSigned w128 c.part.result = search rules in
    let fq : FitsSigned w128 c.part-2.result = search rules in
    to_z-of_z w128 _ fr ∙ c.moved.ensures
    ∙ moved-is _ _ _ _ _ _ (to_z-of_z w128 _ fs ∙ c.requires.is)
    (to_z-of_z w128 _ fp ∙ c.part.ensures.value ∙ ap part (at-exact xs 0 c.requires.cells))
    (to_z-of_z w128 _ fq ∙ c.part-2.ensures.value ∙ ap part (at-exact xs (length xs - 1) c.requires.cells))
    ∙ sym (sum-slides xs (omega arith))
