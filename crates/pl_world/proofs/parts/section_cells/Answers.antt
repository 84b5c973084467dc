use Rattle.std.proofs.Common.{◌≡◌, sym, length, subst, arith}
use Rattle.std.proofs.lemmas.Grind.{common_steps}
use Rattle.std.proofs.lemmas.List.{take_at}
use Rattle.pl_cross.specs.Listing.{labels_in}
use Rattle.pl_terms.specs.Kinds.{kind_of}
use Rattle.pl_world.specs.Evaluations.{AreSectionCells}
use Rattle.pl_world.proofs.parts.section_cells.Goals as goal

pub returns : goal.returns
returns c =
    let long : length c.section_values.new.out ≡ c.in_ok-out.out.len = grind (arith, common_steps, c.section_values.ensures.length, c.deref_mut.ensures.value, c.in_ok-out.out.ok) in
    let size : length c.section_values.new.out ≡ length c.args.values.now = grind (arith, common_steps, c.section_values.ensures.length, c.deref_mut.ensures.len, c.in_ok-out.ensures.len) in
    subst (AreSectionCells (kind_of c.args.kind.now) c.args.values.now c.args.keep.now (labels_in c.args.groups)) (sym (take_at c.section_values.new.out _ c.in_ok-out.out.len long))
    (record { long = size; each = c.section_values.ensures.each; cells = c.section_values.ensures.cells })
