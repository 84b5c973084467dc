use Rattle.std.proofs.Common.{ap, sym, subst, ◌∙◌, rules, w64, FitsSigned}
use Rattle.std.proofs.lemmas.Int.{to_z-of_z}
use Rattle.pl_spec.specs.Rounding.{IsCell}
use Rattle.pl_terms.specs.Kinds.{kind_of}
use Rattle.std.proofs.lemmas.Result.{IfOk-weaker}
use Rattle.pl_values.specs.Views.{keeps_kind}
use Rattle.pl_values.specs.Families.{IsOf, sid_flag}
use Rattle.pl_terms.specs.declared.row.Family.TheVariants as family
use Rattle.pl_explain.specs.Given.{sid_in}
use Rattle.pl_world.proofs.Evaluated.{sid-of, label-named, number-named, sids-is, label-test-is, section-is}
use Rattle.pl_explain.proofs.Worths.{kept-seen, constant-stated, label-stated, number-stated, sids-stated}
use Rattle.pl_explain.proofs.value.kept_stated.Goals as goal

pub label_cell-requires-clause-name : goal.label_cell-requires-clause-name
label_cell-requires-clause-name c =
    let b = c.args.basis.now in
    let n = c.node_in-node.result.now in
    let kind : IsOf (kind_of n.kind) (family.Label c.in-Label.name) = subst (IsOf (kind_of n.kind)) c.in-Label.is c.family_of.ensures in
    label-named b.world b.checked.now c.requires.kept.at.on.ready.checked c.args.t.0 n c.node_in-node.ensures (sid_in b c.args.col) c.args.session c.requires.kept.kept c.in-Label.name kind

pub number_cell-requires-clause-name : goal.number_cell-requires-clause-name
number_cell-requires-clause-name c =
    let b = c.args.basis.now in
    let n = c.node_in-node.result.now in
    let kind : IsOf (kind_of n.kind) (family.Number c.in-Number.figure c.in-Number.name) = subst (IsOf (kind_of n.kind)) c.in-Number.is c.family_of.ensures in
    number-named b.world b.checked.now c.requires.kept.at.on.ready.checked c.args.t.0 n c.node_in-node.ensures (sid_in b c.args.col) c.args.session c.requires.kept.kept c.in-Number.figure c.in-Number.name kind

pub returns-in-Constant-clause-given : goal.returns-in-Constant-clause-given
returns-in-Constant-clause-given c =
    let n = c.node_in-node.result.now in
    let kind : IsOf (kind_of n.kind) (family.Constant c.in-Constant.value) = subst (IsOf (kind_of n.kind)) c.in-Constant.is c.family_of.ensures in
    let fits : FitsSigned w64 c.in-Constant.value = search rules in
    kept-seen c.requires.kept n c.node_in-node.ensures c.args.view (ap keeps_kind kind) _ (constant-stated c.requires.kept n c.node_in-node.ensures c.in-Constant.value kind _ (to_z-of_z w64 _ fits))

pub returns-in-Label-clause-given : goal.returns-in-Label-clause-given
returns-in-Label-clause-given c =
    let n = c.node_in-node.result.now in
    let kind : IsOf (kind_of n.kind) (family.Label c.in-Label.name) = subst (IsOf (kind_of n.kind)) c.in-Label.is c.family_of.ensures in
    let fits : FitsSigned w64 c.label_cell.result = search rules in
    let same = to_z-of_z w64 _ fits in
    kept-seen c.requires.kept n c.node_in-node.ensures c.args.view (ap keeps_kind kind) _ (label-stated c.requires.kept n c.node_in-node.ensures c.in-Label.name kind _ (same ∙ c.label_cell.ensures.value) (subst IsCell (sym same) c.label_cell.ensures.cell))

pub returns-in-Number-clause-given : goal.returns-in-Number-clause-given
returns-in-Number-clause-given c =
    let n = c.node_in-node.result.now in
    let kind : IsOf (kind_of n.kind) (family.Number c.in-Number.figure c.in-Number.name) = subst (IsOf (kind_of n.kind)) c.in-Number.is c.family_of.ensures in
    let fits : FitsSigned w64 c.number_cell.result = search rules in
    let same = to_z-of_z w64 _ fits in
    kept-seen c.requires.kept n c.node_in-node.ensures c.args.view (ap keeps_kind kind) _ (number-stated c.requires.kept n c.node_in-node.ensures c.in-Number.figure c.in-Number.name kind _ (same ∙ c.number_cell.ensures.value) (subst IsCell (sym same) c.number_cell.ensures.cell))

pub returns-in-Sids-clause-given : goal.returns-in-Sids-clause-given
returns-in-Sids-clause-given c =
    let n = c.node_in-node.result.now in
    let kind : IsOf (kind_of n.kind) family.Sids = subst (IsOf (kind_of n.kind)) c.in-Sids.is c.family_of.ensures in
    let fits : FitsSigned w64 c.sids_value.result = search rules in
    let cell : IsCell c.sids_value.result = search rules in
    let same = to_z-of_z w64 _ fits in
    let sid = sid-of c.args.basis.now.world.assets.now c.args.col c.sid.result c.sid.ensures in
    kept-seen c.requires.kept n c.node_in-node.ensures c.args.view (ap keeps_kind (sids-is (kind_of n.kind) kind).1) _ (sids-stated c.requires.kept n c.node_in-node.ensures kind _ (same ∙ c.sids_value.ensures ∙ ap (sid_flag (kind_of n.kind)) sid) (subst IsCell (sym same) cell))

-- what is of one session or of all assets keeps its values

pub returns-in-LabelTest-clause-given : goal.returns-in-LabelTest-clause-given
returns-in-LabelTest-clause-given c =
    let n = c.node_in-node.result.now in
    let kind : IsOf (kind_of n.kind) family.LabelTest = subst (IsOf (kind_of n.kind)) c.in-LabelTest.is c.family_of.ensures in
    kept-seen c.requires.kept n c.node_in-node.ensures c.args.view (ap keeps_kind (label-test-is (kind_of n.kind) kind).1) c.over_label.result c.over_label.ensures

pub returns-in-Section-clause-given : goal.returns-in-Section-clause-given
returns-in-Section-clause-given c =
    let n = c.node_in-node.result.now in
    let kind : IsOf (kind_of n.kind) family.Section = subst (IsOf (kind_of n.kind)) c.in-Section.is c.family_of.ensures in
    IfOk-weaker c.section_stated.result _ _ (kept-seen c.requires.kept n c.node_in-node.ensures c.args.view (ap keeps_kind (section-is (kind_of n.kind) kind).1)) c.section_stated.ensures.given

pub returns-in-Downsample-clause-given : goal.returns-in-Downsample-clause-given
returns-in-Downsample-clause-given c =
    let n = c.node_in-node.result.now in
    let kind : IsOf (kind_of n.kind) (family.Downsample c.in-Downsample.frequency) = subst (IsOf (kind_of n.kind)) c.in-Downsample.is c.family_of.ensures in
    kept-seen c.requires.kept n c.node_in-node.ensures c.args.view (ap keeps_kind kind) c.over_period.result c.over_period.ensures
