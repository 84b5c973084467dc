use Rattle.std.proofs.Common.{rules, w64, FitsSigned, pos, get_or, arith, to_z, of_z, ap, ◌∙◌, length, ◌<◌, ◌≡◌, if◌then◌else◌}
use Rattle.pl_spec.specs.Cells.{is_true}
use Rattle.pl_pipeline.specs.Cross.{array_at}
use Rattle.pl_cross.proofs.Listings.{read-cell}
use Rattle.pl_cross.proofs.Shares.{written-more}
use Rattle.pl_cross.proofs.places.clear_kept.Goals as goal

pub loop-i-preserved : goal.loop-i-preserved
loop-i-preserved c =
    let keep = c.args.keep.now in
    let i = c.loop-i.i in
    let fits : FitsSigned w64 c.kept_or.result = search rules in
    let fits_keep : FitsSigned w64 (get_or c.args.keep.now c.loop-i.i (pos 0)) = search rules in
    let inside : c.loop-i.i < length c.args.keep.now = omega (arith, c.requires, c.loop-i-test.true, c.loop-i.invariant.long) in
    let keep_is : to_z w64 (of_z w64 (get_or c.args.keep.now c.loop-i.i (pos 0))) ≡ array_at c.args.keep.now c.loop-i.i = read-cell keep i fits_keep inside in
    record {
      long = search rules;
      each = written-more (λ k. if is_true (array_at c.args.keep.now k) then to_z w64 (of_z w64 c.args.value) else to_z w64 (of_z w64 c.args.other)) c.loop-i.out i c.kept_or.result fits (omega (arith, c.loop-i-test.true, c.loop-i.invariant.long)) c.loop-i.invariant.each
          (c.kept_or.ensures ∙ ap (λ a. if is_true a then to_z w64 (of_z w64 c.args.value) else to_z w64 (of_z w64 c.args.other)) keep_is);
    }
