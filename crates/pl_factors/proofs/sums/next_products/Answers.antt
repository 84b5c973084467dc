use Rattle.std.proofs.Common.{◌≡◌, ◌-◌, pos, get_or, length, rules, arith, ap, ap₂, sym, ◌∙◌, FitsSigned}
use Rattle.std.specs.Int.{w128}
use Rattle.std.proofs.lemmas.Int.{to_z-of_z}
use Rattle.pl_lanes.proofs.Bits.{at-exact}
use Rattle.pl_factors.specs.Terms.{product}
use Rattle.pl_factors.specs.Spans.{before}
use Rattle.pl_factors.proofs.Bounds.{moved-is, before-cells, before-few, products-within}
use Rattle.pl_factors.proofs.Sliding.{products-slide, length-before}
use Rattle.pl_factors.proofs.sums.next_products.Goals as goal

pub moved-requires-clause-sum : goal.moved-requires-clause-sum
moved-requires-clause-sum c =
    let fs : FitsSigned w128 c.args.sum = c.ranges.sum in
    let long : length (before c.args.b.now) ≡ length (before c.args.a.now) = omega (arith, length-before c.args.a.now, length-before c.args.b.now, c.requires.paired) in
    rw (to_z-of_z w128 _ fs, c.requires.is)
    (products-within (before c.args.a.now) (before c.args.b.now) (before-cells _ c.requires.cells) (before-cells _ c.requires.others) long (before-few _ c.requires.few))

pub returns : goal.returns
returns c =
    let xs = c.args.a.now in
    let ys = c.args.b.now in
    let fr : FitsSigned w128 c.moved.result = search rules in
    let fs : FitsSigned w128 c.args.sum = c.ranges.sum in
    let fp : FitsSigned w128 c.product.result = search rules in
    let fq : FitsSigned w128 c.product-2.result = search rules in
    let end : length xs - 1 ≡ length ys - 1 = omega arith in
    to_z-of_z w128 _ fr ∙ c.moved.ensures
    ∙ moved-is _ _ _ _ _ _ (to_z-of_z w128 _ fs ∙ c.requires.is)
    (to_z-of_z w128 _ fp ∙ c.product.ensures.value ∙ ap₂ product (at-exact xs 0 c.requires.cells) (at-exact ys 0 c.requires.others))
    (to_z-of_z w128 _ fq ∙ c.product-2.ensures.value ∙ ap₂ product (at-exact xs (length xs - 1) c.requires.cells) (at-exact ys (length xs - 1) c.requires.others ∙ ap (λ k. get_or ys k (pos 0)) end))
    ∙ sym (products-slide xs ys (omega arith) c.requires.paired)
