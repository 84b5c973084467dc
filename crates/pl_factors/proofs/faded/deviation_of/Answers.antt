use Rattle.std.proofs.Common.{◌*◌, ◌≤◌, unsigned_abs, arith, FitsSigned}
use Rattle.std.specs.Int.{w128}
use Rattle.std.proofs.lemmas.Int.{to_z-of_z}
use Rattle.pl_spec.specs.Limits.{most_window}
use Rattle.pl_spec.specs.Rounding.{LIMIT}
use Rattle.pl_pipeline.specs.Formula.{FINE}
use Rattle.pl_factors.proofs.Central.{apart, limited, wide_is}
use Rattle.pl_factors.proofs.faded.deviation_of.Goals as goal

pub root-requires : goal.root-requires
root-requires c =
    let s = wide_is _ _ c.ranges.sum c.new.ensures in
    let small : unsigned_abs c.new.result ≤ most_window * FINE = rw s c.requires.sum in
    let t = limited c.new.result c.args.second.now c.times.result (most_window * FINE) (most_window * (LIMIT * (LIMIT * LIMIT))) c.times.ensures small c.requires.second in
    let f : FitsSigned w128 c.args.first = c.ranges.first in
    let p = simp to_z-of_z at c.product.ensures in
    let q = limited c.args.first c.args.first c.product.result (most_window * (LIMIT * LIMIT)) (most_window * (LIMIT * LIMIT)) p c.requires.first c.requires.first in
    let r = apart c.times.result c.product.result c.minus-above.result _ _ c.minus-above.ensures t q in
    omega (arith, r, c.size.ensures)
