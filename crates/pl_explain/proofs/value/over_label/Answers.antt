use Rattle.std.proofs.Common.{◌∙◌, sym, subst, rules, w64, FitsSigned}
use Rattle.std.proofs.lemmas.Int.{to_z-of_z}
use Rattle.pl_spec.specs.Rounding.{IsCell}
use Rattle.pl_values.specs.Families.{IsCode}
use Rattle.pl_world.specs.Worlds.{world_of}
use Rattle.pl_explain.proofs.Values.{one-within}
use Rattle.pl_explain.proofs.Worths.{label-test-lacks, label-test-stated}
use Rattle.pl_explain.proofs.value.over_label.Goals as goal

pub returns-in_err-code : goal.returns-in_err-code
returns-in_err-code c =
    let is = c.node_in-node.ensures in
    label-test-lacks c.requires.kept c.node_in-node.result.now is (c.requires.kind _ is) c.input_at-first.result c.input_at-first.ensures c.in_err-code.ensures c.from_residual.result c.from_residual.ensures

pub label_test_value-requires-clause-code : goal.label_test_value-requires-clause-code
label_test_value-requires-clause-code c =
    let is = c.node_in-node.ensures in
    let fits : FitsSigned w64 c.in_ok-code.code = search rules in
    let all = label-test-stated c.requires.kept c.node_in-node.result.now is (c.requires.kind _ is) c.input_at-first.result c.input_at-first.ensures c.in_ok-code.code c.in_ok-code.ensures in
    subst (IsCode (world_of c.args.basis.now.world).texts) (sym (to_z-of_z w64 _ fits)) all.0

pub returns : goal.returns
returns c =
    let is = c.node_in-node.ensures in
    let fx : FitsSigned w64 c.in_ok-code.code = search rules in
    let fits : FitsSigned w64 c.label_test_value.result = search rules in
    let all = label-test-stated c.requires.kept c.node_in-node.result.now is (c.requires.kind _ is) c.input_at-first.result c.input_at-first.ensures c.in_ok-code.code c.in_ok-code.ensures in
    let value = simp to_z-of_z at c.label_test_value.ensures in
    let cell : IsCell c.label_test_value.result = search rules in
    let same = to_z-of_z w64 _ fits in
    all.1 _ (same ∙ value) (subst IsCell (sym same) cell)

pub input_stated-requires-clause-input : goal.input_stated-requires-clause-input
input_stated-requires-clause-input c = one-within c.args.basis.now.checked.now c.requires.kept.at.on.ready.checked c.args.t.0 c.node_in-node.result.now c.node_in-node.ensures 0 c.input_at-first.result c.input_at-first.ensures
