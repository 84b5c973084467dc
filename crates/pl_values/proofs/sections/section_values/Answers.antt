use Rattle.std.proofs.Common.{◌≡◌, ℕ, ◌<◌, ◌≤◌, true, false, ◌∙◌, ℤ, List, length, All, refl, sym, arith, subst, Option}
use Rattle.std.proofs.lemmas.List.{get_or_default}
use Rattle.pl_spec.specs.Limits.{most_assets}
use Rattle.pl_spec.specs.Rounding.{MISSING, IsCell}
use Rattle.pl_pipeline.specs.Cross.{array_at}
use Rattle.pl_pipeline.specs.Kind.{Kind, CrossKind}
use Rattle.pl_pipeline.specs.Kind.Kind.{Cross}
use Rattle.pl_cross.specs.Section.{HasParameters, is_section}
use Rattle.pl_cross.specs.Arrays.{section_at}
use Rattle.pl_values.proofs.CrossCells.{section-is-cell}
use Rattle.pl_values.proofs.sections.section_values.Goals as goal

cells-out : (k : Kind) → is_section k ≡ true → HasParameters k → (vs keep out : List ℤ) (labels : Option (List ℤ)) → length vs ≤ most_assets → All IsCell vs → length out ≡ length vs
    → ((f : CrossKind) → k ≡ Cross f → (i : ℕ) → i < length vs → array_at out i ≡ section_at f vs keep labels i) → All IsCell out
cells-out (Cross f) h r vs keep out labels few cells long each = λ i d l.
    let m : i < length vs = omega (arith, l, long) in
    subst IsCell (sym (get_or_default out i d MISSING l ∙ each f refl i m)) (section-is-cell f vs keep labels i r few cells m)
cells-out k h r vs keep out labels few cells long each = absurd (let bad : false ≡ true = h in cc)

pub returns-then-is_choice-clause-cells : goal.returns-then-is_choice-clause-cells
returns-then-is_choice-clause-cells c =
    let r = c.requires in
    let long : length c.select_into.new.out ≡ length c.args.values.now = c.select_into.auto.out ∙ r.out in
    cells-out _ r.kind r.parameters c.args.values.now _ c.select_into.new.out _ r.few r.cells long c.select_into.ensures.each

pub returns-else-is_choice-clause-cells : goal.returns-else-is_choice-clause-cells
returns-else-is_choice-clause-cells c =
    let r = c.requires in
    let long : length c.cross_into.new.out ≡ length c.args.values.now = c.cross_into.auto.out ∙ r.out in
    cells-out _ r.kind r.parameters c.args.values.now _ c.cross_into.new.out _ r.few r.cells long c.cross_into.ensures.each
