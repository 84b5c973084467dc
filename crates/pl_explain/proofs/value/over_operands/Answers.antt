use Rattle.std.proofs.Common.{arith, rules, ◌∙◌, sym, subst, w64, FitsSigned}
use Rattle.std.proofs.lemmas.Int.{to_z-of_z}
use Rattle.pl_spec.specs.Rounding.{IsCell}
use Rattle.pl_explain.proofs.Values.{one-within}
use Rattle.pl_explain.proofs.Worths.{point-lacks, point-stated}
use Rattle.pl_explain.proofs.value.over_operands.Goals as goal

pub returns-in_err-x : goal.returns-in_err-x
returns-in_err-x c =
    let is = c.node_in-node.ensures in
    point-lacks c.requires.kept c.node_in-node.result.now is (c.requires.kind _ is) c.args.view c.operand_view-from.result c.operand_view-from.ensures 0 (omega arith) c.input_at-first.result c.input_at-first.ensures c.in_err-x.ensures c.from_residual.result c.from_residual.ensures

pub returns-in_err-y : goal.returns-in_err-y
returns-in_err-y c =
    let is = c.node_in-node.ensures in
    point-lacks c.requires.kept c.node_in-node.result.now is (c.requires.kind _ is) c.args.view c.operand_view-from.result c.operand_view-from.ensures 1 (omega arith) c.input_at-second.result c.input_at-second.ensures c.in_err-y.ensures c.from_residual-in_err-y.result c.from_residual-in_err-y.ensures

pub returns-in_err-z : goal.returns-in_err-z
returns-in_err-z c =
    let is = c.node_in-node.ensures in
    point-lacks c.requires.kept c.node_in-node.result.now is (c.requires.kind _ is) c.args.view c.operand_view-from.result c.operand_view-from.ensures 2 (omega arith) c.input_at-third.result c.input_at-third.ensures c.in_err-z.ensures c.from_residual-in_err-z.result c.from_residual-in_err-z.ensures

pub point_value-requires : goal.point_value-requires
point_value-requires c =
    let is = c.node_in-node.ensures in
    let fx : FitsSigned w64 c.in_ok-x.x = search rules in
    let fy : FitsSigned w64 c.in_ok-y.y = search rules in
    let fz : FitsSigned w64 c.in_ok-z.z = search rules in
    let all = point-stated c.requires.kept c.node_in-node.result.now is (c.requires.kind _ is) c.args.view c.operand_view-from.result c.operand_view-from.ensures c.input_at-first.result c.input_at-second.result c.input_at-third.result c.input_at-first.ensures c.input_at-second.ensures c.input_at-third.ensures
    c.in_ok-x.x c.in_ok-y.y c.in_ok-z.z c.in_ok-x.ensures c.in_ok-y.ensures c.in_ok-z.ensures in
    rw (to_z-of_z w64 _ fx, to_z-of_z w64 _ fy, to_z-of_z w64 _ fz) (record { kind = all.0; operands = all.1 })

pub returns : goal.returns
returns c =
    let is = c.node_in-node.ensures in
    let fx : FitsSigned w64 c.in_ok-x.x = search rules in
    let fy : FitsSigned w64 c.in_ok-y.y = search rules in
    let fz : FitsSigned w64 c.in_ok-z.z = search rules in
    let fits : FitsSigned w64 c.point_value.result = search rules in
    let all = point-stated c.requires.kept c.node_in-node.result.now is (c.requires.kind _ is) c.args.view c.operand_view-from.result c.operand_view-from.ensures c.input_at-first.result c.input_at-second.result c.input_at-third.result c.input_at-first.ensures c.input_at-second.ensures c.input_at-third.ensures
    c.in_ok-x.x c.in_ok-y.y c.in_ok-z.z c.in_ok-x.ensures c.in_ok-y.ensures c.in_ok-z.ensures in
    let value = simp to_z-of_z at c.point_value.ensures.value in
    let same = to_z-of_z w64 _ fits in
    all.2 _ (same ∙ value) (subst IsCell (sym same) c.point_value.ensures.cell)

pub input_stated-requires-clause-input : goal.input_stated-requires-clause-input
input_stated-requires-clause-input c = one-within c.args.basis.now.checked.now c.requires.kept.at.on.ready.checked c.args.t.0 c.node_in-node.result.now c.node_in-node.ensures 0 c.input_at-first.result c.input_at-first.ensures

pub input_stated-requires-2-clause-input : goal.input_stated-requires-2-clause-input
input_stated-requires-2-clause-input c = one-within c.args.basis.now.checked.now c.requires.kept.at.on.ready.checked c.args.t.0 c.node_in-node.result.now c.node_in-node.ensures 1 c.input_at-second.result c.input_at-second.ensures

pub input_stated-requires-3-clause-input : goal.input_stated-requires-3-clause-input
input_stated-requires-3-clause-input c = one-within c.args.basis.now.checked.now c.requires.kept.at.on.ready.checked c.args.t.0 c.node_in-node.result.now c.node_in-node.ensures 2 c.input_at-third.result c.input_at-third.ensures
