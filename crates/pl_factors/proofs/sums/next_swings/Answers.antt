use Rattle.std.proofs.Common.{◌≡◌, ◌-◌, pos, get_or, length, rules, arith, ap, ap₂, sym, ◌∙◌, FitsSigned}
use Rattle.std.specs.Int.{w128}
use Rattle.std.proofs.lemmas.Int.{to_z-of_z}
use Rattle.pl_lanes.proofs.Bits.{at-exact}
use Rattle.pl_factors.specs.Terms.{swing}
use Rattle.pl_factors.specs.Spans.{before}
use Rattle.pl_factors.proofs.Bounds.{moved-is, before-cells, before-few, swings-within}
use Rattle.pl_factors.proofs.Sliding.{swings-slide}
use Rattle.pl_factors.proofs.sums.next_swings.Goals as goal

pub moved-requires-clause-sum : goal.moved-requires-clause-sum
moved-requires-clause-sum c =
    let fs : FitsSigned w128 c.args.kept = c.ranges.kept in
    let small = swings-within c.args.falls (before c.args.a.now) (before-cells _ c.requires.cells) (before-few _ c.requires.few) in
    rw (to_z-of_z w128 _ fs, c.requires.is) (omega (arith, small))

pub returns : goal.returns
returns c =
    let xs = c.args.a.now in
    let fr : FitsSigned w128 c.moved.result = search rules in
    let fs : FitsSigned w128 c.args.kept = c.ranges.kept in
    let fp : FitsSigned w128 c.swing.result = search rules in
    let fq : FitsSigned w128 c.swing-2.result = search rules in
    let end : length xs - 1 - 1 ≡ length xs - 2 = omega arith in
    to_z-of_z w128 _ fr ∙ c.moved.ensures
    ∙ moved-is _ _ _ _ _ _ (to_z-of_z w128 _ fs ∙ c.requires.is)
    (to_z-of_z w128 _ fp ∙ c.swing.ensures.value ∙ ap₂ (swing c.args.falls) (at-exact xs 0 c.requires.cells) (at-exact xs 1 c.requires.cells))
    (to_z-of_z w128 _ fq ∙ c.swing-2.ensures.value ∙ ap₂ (swing c.args.falls) (at-exact xs (length xs - 1 - 1) c.requires.cells ∙ ap (λ k. get_or xs k (pos 0)) end) (at-exact xs (length xs - 1) c.requires.cells))
    ∙ sym (swings-slide c.args.falls xs c.requires.some)
