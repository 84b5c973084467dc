use Rattle.std.proofs.Common.{◌≡◌, ◌+◌, ◌<◌, ℕ, ℤ, List, set, get_or, pos, length, rules, arith, ap, sym, subst, ◌∙◌, length-set, FitsSigned, w64, w32, to_z, of_z}
use Rattle.std.proofs.lemmas.Int.{to_z-of_z}
use Rattle.pl_spec.specs.Cells.{is_true}
use Rattle.pl_pipeline.proofs.Cells.{is_true-truth}
use Rattle.pl_cross.specs.Listing.{labels_in}
use Rattle.pl_daily.specs.Rows.{is_kept_by}
use Rattle.pl_values.proofs.Written.{one_given}
use Rattle.pl_daily.proofs.RowsShown.{mask_within}
use Rattle.pl_daily.proofs.leaves.keep_row.Goals as goal

pub is_kept-requires-clause-mask : goal.is_kept-requires-clause-mask
is_kept-requires-clause-mask c = mask_within c.args.mask (length c.args.assets.now) c.loop-i.i c.requires.mask (omega (arith, c.loop-i-test.true, c.requires.long))

pub loop-i-preserved : goal.loop-i-preserved
loop-i-preserved c =
    let fd : FitsSigned w32 c.args.day = c.ranges.day in
    let day = to_z-of_z w32 _ fd in
    let fr : FitsSigned w64 c.truth_of.result = search rules in
    let cast = to_z-of_z w64 _ fr in
    let kept = simp to_z-of_z at c.is_kept.ensures in
    let i = c.loop-i.i in
    let IsSoFar : ℤ → ℕ → List ℤ → Type 0 = λ d done row. (k : ℕ) → k < done → is_true (get_or row k (pos 0)) ≡ is_kept_by c.args.assets.now d (labels_in c.args.mask) k in
    let before : IsSoFar c.args.day i c.loop-i.keep = subst (λ d. IsSoFar d i c.loop-i.keep) day c.loop-i.invariant.each in
    let after : IsSoFar c.args.day (i + 1) (set c.loop-i.keep i c.truth_of.result) =
    one_given (λ k x. is_true x ≡ is_kept_by c.args.assets.now c.args.day (labels_in c.args.mask) k) i c.loop-i.keep c.truth_of.result before
    (omega (arith, c.loop-i-test.true, c.loop-i.invariant.long)) (ap is_true c.truth_of.ensures ∙ is_true-truth c.is_kept.result ∙ kept) in
    record {
      long = length-set c.loop-i.keep i _ ∙ c.loop-i.invariant.long;
      each = subst (λ d. IsSoFar d (i + 1) (set c.loop-i.keep i (to_z w64 (of_z w64 c.truth_of.result)))) (sym day) (subst (λ x. IsSoFar c.args.day (i + 1) (set c.loop-i.keep i x)) (sym cast) after);
    }
