use Rattle.std.proofs.Common.{rules, ◌≡◌, ◌≤◌, pos, unsigned_abs, w64, to_z, of_z, FitsSigned, get_or, arith, ◌∙◌, ap}
use Rattle.std.proofs.lemmas.Int.{to_z-of_z}
use Rattle.pl_spec.specs.Rounding.{LIMIT}
use Rattle.pl_cross.specs.declared.listing.Listed.{Listed}
use Rattle.pl_cross.proofs.Centers.{magnitudes-more}
use Rattle.pl_cross.proofs.means.magnitudes.Goals as goal

pub loop-asset-preserved : goal.loop-asset-preserved
loop-asset-preserved c =
    let d : Listed = record { value = pos 0; place = 0 } in
    let fits : FitsSigned w64 (get_or c.args.group.now c.loop-asset.asset-index d).value = search rules in
    let small : unsigned_abs (get_or c.args.group.now c.loop-asset.asset-index d).value ≤ LIMIT = c.requires.cells c.loop-asset.asset-index d c.loop-asset-test.true in
    let is : c.unsigned_abs.result ≡ unsigned_abs (to_z w64 (of_z w64 (get_or c.args.group.now c.loop-asset.asset-index d).value)) = search rules in
    let same = to_z-of_z w64 (get_or c.args.group.now c.loop-asset.asset-index d).value fits in
    record {
      value = magnitudes-more c.args.group.now c.loop-asset.asset-index d c.loop-asset.sum c.unsigned_abs.result c.loop-asset-test.true c.loop-asset.invariant.value (is ∙ ap unsigned_abs same);
      size = omega (arith, c.loop-asset.invariant.size, small, is ∙ ap unsigned_abs same);
    }
