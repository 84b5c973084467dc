use Rattle.std.proofs.Common.{unsigned_abs, ap, ◌∙◌, arith}
use Rattle.std.specs.Int.{w128}
use Rattle.std.proofs.lemmas.Int.{ints, to_z-of_z}
use Rattle.pl_elementary.proofs.Parts.{PARTS, nearest-of, risen, fallen}
use Rattle.pl_elementary.proofs.logarithm.nearest.Goals as goal

pub returns-then-product-lt0-clause-value : goal.returns-then-product-lt0-clause-value
returns-then-product-lt0-clause-value c =
    let size = c.unsigned_abs.ensures.value ∙ ap unsigned_abs (to_z-of_z w128 _ c.ranges.product) in
    fallen c.args.product PARTS _ (omega (arith, ints, c.if-product-lt0.true)) c.nearest_size-size.ensures.small
    (c.nearest_size-size.ensures.value ∙ ap (nearest-of PARTS) size)

pub returns-else-product-lt0-clause-value : goal.returns-else-product-lt0-clause-value
returns-else-product-lt0-clause-value c =
    let size = c.unsigned_abs.ensures.value ∙ ap unsigned_abs (to_z-of_z w128 _ c.ranges.product) in
    risen c.args.product PARTS _ (omega (arith, ints, c.if-product-lt0.false)) c.nearest_size-size.ensures.small
    (c.nearest_size-size.ensures.value ∙ ap (nearest-of PARTS) size)
