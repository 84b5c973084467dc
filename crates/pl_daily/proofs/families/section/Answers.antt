use Rattle.std.proofs.Common.{◌≡◌, true, ◌∙◌, sym, subst, ap, arith}
use Rattle.pl_pipeline.specs.Kind.{Kind}
use Rattle.pl_cross.specs.Section.{HasParameters, is_section}
use Rattle.pl_cross.specs.Listing.{labels_in, Fits}
use Rattle.pl_values.proofs.Rows.{section-long, section-right, section-cells, section-out}
use Rattle.pl_daily.specs.TermDays.{number_row}
use Rattle.pl_daily.proofs.Given.{section_is, groups_fit, group_known}
use Rattle.pl_daily.proofs.families.section.Goals as goal

pub number_row-groups-requires : goal.number_row-groups-requires
number_row-groups-requires c = group_known c.args.term_day.now c.requires.term_day.0 c.requires.term_day.1 c.group_of.result c.group_of.ensures

pub section_values-requires : goal.section_values-requires
section_values-requires c =
    let groups = c.number_row-groups.ensures ∙ ap (number_row c.args.term_day.now.terms.now) c.group_of.ensures in
    let own = section_is c.args.term_day.now c.requires.term_day.0 c.requires.term_day.1 c.row_at-values.result.now c.args.keep.now
    (labels_in c.number_row-groups.result) c.row_at-values.ensures groups c.requires.keep c.requires.kind in
    let long = section-long _ _ _ _ _ _ _ _ _ _ own in
    record {
      kind = subst (λ (k : Kind). is_section k ≡ true) (sym c.kind_of.ensures) c.requires.kind;
      parameters = subst HasParameters (sym c.kind_of.ensures) (section-right _ _ _ _ _ _ _ _ _ _ own);
      room = omega (arith, long, c.requires.cross);
      few = omega (arith, long, c.requires.term_day.1.few);
      cells = section-cells _ _ _ _ _ _ _ _ _ _ own;
      keep = c.requires.keep.long ∙ sym long;
      groups = subst (λ m. Fits m (labels_in c.number_row-groups.result)) (sym long) (groups_fit c.args.term_day.now c.requires.term_day.0 c.requires.term_day.1 _ groups);
      out = c.requires.long ∙ sym long;
    }

pub returns-clause-out : goal.returns-clause-out
returns-clause-out c = λ v is.
    let groups = c.number_row-groups.ensures ∙ ap (number_row c.args.term_day.now.terms.now) c.group_of.ensures in
    let own = section_is c.args.term_day.now v is c.row_at-values.result.now c.args.keep.now (labels_in c.number_row-groups.result) c.row_at-values.ensures groups c.requires.keep c.requires.kind in
    let l = section-long _ _ _ _ _ _ _ _ _ _ own in
    section-out _ _ _ _ _ _ _ _ _ _ own c.section_values.new.out (c.section_values.ensures.length ∙ c.requires.long)
    (λ f e i h. c.section_values.ensures.each f (c.kind_of.ensures ∙ e) i (omega (arith, h, l))) c.section_values.ensures.cells
