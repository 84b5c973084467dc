use Rattle.std.proofs.Common.{◌-◌, length, rules, arith, ap₂, sym, ◌∙◌, FitsSigned, w64}
use Rattle.std.specs.Int.{w128}
use Rattle.std.proofs.lemmas.Int.{to_z-of_z, to_z_pos}
use Rattle.pl_lanes.proofs.Bits.{at-exact}
use Rattle.pl_factors.specs.Terms.{product}
use Rattle.pl_factors.specs.Spans.{before}
use Rattle.pl_factors.proofs.Bounds.{moved-is, before-cells, before-few, sum-within, placed-within}
use Rattle.pl_factors.proofs.Sliding.{placed-slides}
use Rattle.pl_factors.proofs.sums.next_placed.Goals as goal

pub moved-requires-clause-sum : goal.moved-requires-clause-sum
moved-requires-clause-sum c =
    let fs : FitsSigned w128 c.args.placed = c.ranges.placed in
    rw (to_z-of_z w128 _ fs, c.requires.placed) (placed-within (before c.args.a.now) (before-cells _ c.requires.cells) (before-few _ c.requires.few))

pub moved-requires-clause-leaves : goal.moved-requires-clause-leaves
moved-requires-clause-leaves c =
    let fs : FitsSigned w128 c.args.sum = c.ranges.sum in
    let small = sum-within (before c.args.a.now) (before-cells _ c.requires.cells) (before-few _ c.requires.few) in
    rw (to_z-of_z w128 _ fs, c.requires.sum) (omega (arith, small))

pub returns : goal.returns
returns c =
    let xs = c.args.a.now in
    let fr : FitsSigned w128 c.moved.result = search rules in
    let fs : FitsSigned w128 c.args.placed = c.ranges.placed in
    let ft : FitsSigned w128 c.args.sum = c.ranges.sum in
    let fp : FitsSigned w128 c.product.result = search rules in
    to_z-of_z w128 _ fr ∙ c.moved.ensures
    ∙ moved-is _ _ _ _ _ _ (to_z-of_z w128 _ fs ∙ c.requires.placed) (to_z-of_z w128 _ ft ∙ c.requires.sum)
    (to_z-of_z w128 _ fp ∙ c.product.ensures.value ∙ ap₂ product (to_z_pos w64 (length xs - 1) (omega arith)) (at-exact xs (length xs - 1) c.requires.cells))
    ∙ sym (placed-slides xs (omega arith))
