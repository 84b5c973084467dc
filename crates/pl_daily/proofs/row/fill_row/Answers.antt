use Rattle.std.proofs.Common.{◌∙◌, ap, subst, rules, FitsSigned, w32}
use Rattle.std.proofs.lemmas.Int.{to_z-of_z}
use Rattle.pl_cross.specs.Listing.{labels_in}
use Rattle.pl_values.specs.Arrays.{IsKeep}
use Rattle.pl_daily.specs.Rows.{is_kept_by}
use Rattle.pl_daily.specs.TermDays.{assets_at, number_row}
use Rattle.pl_daily.proofs.Given.{mask_known, masks_fit}
use Rattle.pl_daily.proofs.row.fill_row.Goals as goal

pub number_row-mask-requires : goal.number_row-mask-requires
number_row-mask-requires c = mask_known c.args.term_day.now c.requires.term_day.0 c.requires.term_day.1 c.mask_of.result c.mask_of.ensures

pub keep_row-requires-clause-mask : goal.keep_row-requires-clause-mask
keep_row-requires-clause-mask c = masks_fit c.args.term_day.now c.requires.term_day.0 c.requires.term_day.1 c.number_row-mask.result
    (c.number_row-mask.ensures ∙ ap (number_row c.args.term_day.now.terms.now) c.mask_of.ensures)

pub kind_row-requires-clause-keep : goal.kind_row-requires-clause-keep
kind_row-requires-clause-keep c =
    let day : FitsSigned w32 c.args.term_day.now.day = search rules in
    subst (λ m. IsKeep (is_kept_by c.args.term_day.now.assets.now c.args.term_day.now.day m) (assets_at c.args.term_day.now) c.keep_row.new.keep)
    (c.number_row-mask.ensures ∙ ap (number_row c.args.term_day.now.terms.now) c.mask_of.ensures)
    (subst (λ d. IsKeep (is_kept_by c.args.term_day.now.assets.now d (labels_in c.number_row-mask.result)) (assets_at c.args.term_day.now) c.keep_row.new.keep) (to_z-of_z w32 _ day) c.keep_row.ensures)
