use Rattle.std.proofs.Common.{◌≡◌, ◌*◌, pos, arith, FitsSigned, to_z}
use Rattle.std.specs.Int.{w128}
use Rattle.std.proofs.lemmas.Int.{to_z-of_z, to_z_pos}
use Rattle.pl_spec.specs.Limits.{most_window}
use Rattle.pl_spec.specs.Rounding.{LIMIT}
use Rattle.pl_factors.specs.Terms.{MOST_SUM}
use Rattle.pl_factors.proofs.Central.{limited, apart}
use Rattle.pl_factors.proofs.moments.second_of.Goals as goal

pub minus-requires : goal.minus-requires
minus-requires c =
    let f : FitsSigned w128 c.args.first = c.ranges.first in
    let s : FitsSigned w128 c.args.second = c.ranges.second in
    let n : to_z w128 c.args.number ≡ pos c.args.number = to_z_pos w128 c.args.number (omega (arith, c.requires.number)) in
    let a = simp (to_z-of_z, n) at c.product.ensures in
    let b = simp to_z-of_z at c.product-2.ensures in
    let left = limited (pos c.args.number) c.args.second c.product.result most_window (most_window * (LIMIT * LIMIT)) a c.requires.number c.requires.second in
    let right = limited c.args.first c.args.first c.product-2.result MOST_SUM MOST_SUM b c.requires.first c.requires.first in
    omega (arith, left, right)

pub returns-clause-small : goal.returns-clause-small
returns-clause-small c =
    let f : FitsSigned w128 c.args.first = c.ranges.first in
    let s : FitsSigned w128 c.args.second = c.ranges.second in
    let n : to_z w128 c.args.number ≡ pos c.args.number = to_z_pos w128 c.args.number (omega (arith, c.requires.number)) in
    let a = simp (to_z-of_z, n) at c.product.ensures in
    let b = simp to_z-of_z at c.product-2.ensures in
    let left = limited (pos c.args.number) c.args.second c.product.result most_window (most_window * (LIMIT * LIMIT)) a c.requires.number c.requires.second in
    let right = limited c.args.first c.args.first c.product-2.result MOST_SUM MOST_SUM b c.requires.first c.requires.first in
    let both = apart c.product.result c.product-2.result c.minus.result (most_window * (most_window * (LIMIT * LIMIT))) (MOST_SUM * MOST_SUM) c.minus.ensures left right in
    omega (arith, both)
