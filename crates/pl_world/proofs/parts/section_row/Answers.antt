use Rattle.std.proofs.Common.{◌≡◌, ℤ, List, Some, slice_get, ◌∙◌, sym, ap, length, option_map, subst, arith}
use Rattle.std.proofs.lemmas.Result.{IfOk-weaker}
use Rattle.pl_spec.specs.Rounding.{MISSING}
use Rattle.pl_pipeline.specs.Cross.{array_at}
use Rattle.pl_cross.specs.Listing.{labels_in, Fits}
use Rattle.pl_cross.specs.Arrays.{HasTexts}
use Rattle.pl_values.proofs.Texts.{texts-coded}
use Rattle.pl_terms.specs.Kinds.{kind_of}
use Rattle.pl_world.specs.Worlds.{world_of}
use Rattle.pl_world.proofs.Evaluated.{section-is}
use Rattle.pl_world.proofs.Sections.{right, section-given, groups-fit, mask-fits, some-mapped, section-end, values-long, row-whole}
use Rattle.pl_world.proofs.parts.section_row.Goals as goal

pub keep_row-requires-clause-mask : goal.keep_row-requires-clause-mask
keep_row-requires-clause-mask c =
    let w = c.args.world.now in
    let n = c.node.result.now in
    let is : slice_get c.args.checked.now.graph c.args.t.0 ≡ Some n = ap (λ ns. slice_get ns c.args.t.0) (sym c.graph.ensures.value) ∙ c.node.ensures in
    let texts : HasTexts (world_of w) = texts-coded w.sessions.now w.assets.now w.labels.now w.bars.now w.adjustments.now w.numbers.now.rows c.assets_and_labels.ensures.labels in
    let fit = mask-fits w c.args.checked.now c.graph.ensures.checked c.assets_and_labels.ensures.assets c.args.session c.args.t.0 n is (c.requires.kind n is) texts c.args.rows.now.values.now _ _ c.requires.rows in
    some-mapped (λ v. v.items) (λ (m : List ℤ). length m ≡ length w.assets.now) c.args.rows.now.mask.now fit

pub section_cells-requires-clause-parameters : goal.section_cells-requires-clause-parameters
section_cells-requires-clause-parameters c =
    let w = c.args.world.now in
    let n = c.node.result.now in
    let is : slice_get c.args.checked.now.graph c.args.t.0 ≡ Some n = ap (λ ns. slice_get ns c.args.t.0) (sym c.graph.ensures.value) ∙ c.node.ensures in
    let texts : HasTexts (world_of w) = texts-coded w.sessions.now w.assets.now w.labels.now w.bars.now w.adjustments.now w.numbers.now.rows c.assets_and_labels.ensures.labels in
    right w c.args.checked.now c.graph.ensures.checked c.assets_and_labels.ensures.assets c.args.session c.args.t.0 n is (c.requires.kind n is) texts

pub section_cells-requires-clause-groups : goal.section_cells-requires-clause-groups
section_cells-requires-clause-groups c =
    let w = c.args.world.now in
    let n = c.node.result.now in
    let is : slice_get c.args.checked.now.graph c.args.t.0 ≡ Some n = ap (λ ns. slice_get ns c.args.t.0) (sym c.graph.ensures.value) ∙ c.node.ensures in
    let texts : HasTexts (world_of w) = texts-coded w.sessions.now w.assets.now w.labels.now w.bars.now w.adjustments.now w.numbers.now.rows c.assets_and_labels.ensures.labels in
    subst (Fits (length c.args.rows.now.values.now)) (sym c.lent.ensures)
    (groups-fit w c.args.checked.now c.graph.ensures.checked c.assets_and_labels.ensures.assets c.args.session c.args.t.0 n is (c.requires.kind n is) texts c.args.rows.now.values.now _ _ c.requires.rows)

pub returns-clause-row : goal.returns-clause-row
returns-clause-row c =
    let w = c.args.world.now in
    let p = c.args.checked.now in
    let n = c.node.result.now in
    let is : slice_get c.args.checked.now.graph c.args.t.0 ≡ Some n = ap (λ ns. slice_get ns c.args.t.0) (sym c.graph.ensures.value) ∙ c.node.ensures in
    let texts : HasTexts (world_of w) = texts-coded w.sessions.now w.assets.now w.labels.now w.bars.now w.adjustments.now w.numbers.now.rows c.assets_and_labels.ensures.labels in
    let f = section-is (kind_of n.kind) (c.requires.kind n is) in
    let ok = c.graph.ensures.checked in
    let assets = c.assets_and_labels.ensures.assets in
    let given = section-given w p ok assets c.args.session c.args.t.0 n is (c.requires.kind n is) texts c.args.rows.now.values.now _ _ c.requires.rows c.in_ok-keep.keep.items c.in_ok-keep.ensures f.0 f.1 in
    let wide = values-long w p ok assets c.args.session c.args.t.0 n is (c.requires.kind n is) texts c.args.rows.now.values.now _ _ c.requires.rows in
    IfOk-weaker c.section_cells.result _ _ (λ v h. row-whole w p c.args.t.0 c.args.session v.items MISSING (h.long ∙ wide)
    (λ i l. section-end f.0 c.args.rows.now.values.now c.in_ok-keep.keep.items c.deref.result.now (option_map (λ v. v.items) c.args.rows.now.groups.now) (labels_in c.lent.result)
    i (array_at v.items i) _ (h.each f.0 f.1 i (omega (arith, l, wide))) c.deref.ensures.value c.lent.ensures (given i l))) c.section_cells.ensures

pub returns-clause-cells : goal.returns-clause-cells
returns-clause-cells c = IfOk-weaker c.section_cells.result _ _ (λ v h. h.cells) c.section_cells.ensures
