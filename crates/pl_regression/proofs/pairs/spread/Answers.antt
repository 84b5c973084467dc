use Rattle.std.proofs.Common.{◌≡◌, pos, ◌-ℤ◌, arith, refl, FitsSigned, to_z}
use Rattle.std.specs.Int.{w128}
use Rattle.std.proofs.lemmas.Int.{to_z-of_z, to_z_pos}
use Rattle.pl_regression.proofs.Bounds.{spread_small}
use Rattle.pl_regression.proofs.pairs.spread.Goals as goal

pub minus-requires : goal.minus-requires
minus-requires c =
    let p : FitsSigned w128 c.args.products = c.ranges.products in
    let x : FitsSigned w128 c.args.x = c.ranges.x in
    let y : FitsSigned w128 c.args.y = c.ranges.y in
    let n : to_z w128 c.args.number ≡ pos c.args.number = to_z_pos w128 c.args.number (omega arith) in
    let a = simp (to_z-of_z, n) at c.product.ensures in
    let b = simp to_z-of_z at c.product-2.ensures in
    (spread_small c.args.number c.args.products c.args.x c.args.y _ _ (c.product.result -ℤ c.product-2.result) a b refl
    c.requires.number c.requires.products c.requires.x c.requires.y).0

pub returns-clause-small : goal.returns-clause-small
returns-clause-small c =
    let p : FitsSigned w128 c.args.products = c.ranges.products in
    let x : FitsSigned w128 c.args.x = c.ranges.x in
    let y : FitsSigned w128 c.args.y = c.ranges.y in
    let n : to_z w128 c.args.number ≡ pos c.args.number = to_z_pos w128 c.args.number (omega arith) in
    let a = simp (to_z-of_z, n) at c.product.ensures in
    let b = simp to_z-of_z at c.product-2.ensures in
    (spread_small c.args.number c.args.products c.args.x c.args.y _ _ _ a b c.minus.ensures c.requires.number c.requires.products c.requires.x c.requires.y).1
