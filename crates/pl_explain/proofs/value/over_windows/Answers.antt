use Rattle.std.proofs.Common.{arith, rules, ◌∙◌, sym, subst, w64, FitsSigned}
use Rattle.std.proofs.lemmas.Int.{to_z-of_z}
use Rattle.pl_spec.specs.Rounding.{IsCell}
use Rattle.pl_explain.proofs.Given.{none-of, lacked-by, lent}
use Rattle.pl_explain.proofs.Values.{one-within}
use Rattle.pl_explain.proofs.Worths.{window-lacks, windows-stated}
use Rattle.pl_explain.proofs.value.over_windows.Goals as goal

pub returns-in_default : goal.returns-in_default
returns-in_default c =
    let is = c.node_in-node.ensures in
    window-lacks c.requires.kept c.node_in-node.result.now is (c.requires.kind _ is) c.args.view c.window_view-from.result c.window_view-from.ensures 0 (omega arith) c.input_at-first.result c.input_at-first.ensures
    (lacked-by c.args.basis.now.stated.now (λ v. v.items) c.in_ok-a.field-0 c.in_ok-a.ensures (none-of c.in_ok-a.field-0 c.in_default.not-Some))

pub returns-in_default-2 : goal.returns-in_default-2
returns-in_default-2 c =
    let is = c.node_in-node.ensures in
    window-lacks c.requires.kept c.node_in-node.result.now is (c.requires.kind _ is) c.args.view c.window_view-from.result c.window_view-from.ensures 1 (omega arith) c.input_at-second.result c.input_at-second.ensures
    (lacked-by c.args.basis.now.stated.now (λ v. v.items) c.in_ok-b.field-0 c.in_ok-b.ensures (none-of c.in_ok-b.field-0 c.in_default-2.not-Some))

pub returns-in_default-3 : goal.returns-in_default-3
returns-in_default-3 c =
    let is = c.node_in-node.ensures in
    window-lacks c.requires.kept c.node_in-node.result.now is (c.requires.kind _ is) c.args.view c.window_view-from.result c.window_view-from.ensures 2 (omega arith) c.input_at-third.result c.input_at-third.ensures
    (lacked-by c.args.basis.now.stated.now (λ v. v.items) c.in_ok-c.field-0 c.in_ok-c.ensures (none-of c.in_ok-c.field-0 c.in_default-3.not-Some))

pub window_value-requires : goal.window_value-requires
window_value-requires c =
    let stated = c.args.basis.now.stated.now in
    let is = c.node_in-node.ensures in
    let x = lent stated (λ v. v.items) c.in_ok-a.field-0 c.in_ok-a.ensures c.in-Some.a c.deref.result.now c.in-Some.is c.deref.ensures.value in
    let y = lent stated (λ v. v.items) c.in_ok-b.field-0 c.in_ok-b.ensures c.in-Some-2.b c.deref-2.result.now c.in-Some-2.is c.deref-2.ensures.value in
    let z = lent stated (λ v. v.items) c.in_ok-c.field-0 c.in_ok-c.ensures c.in-Some-3.c c.deref-3.result.now c.in-Some-3.is c.deref-3.ensures.value in
    (windows-stated c.requires.kept c.node_in-node.result.now is (c.requires.kind _ is) c.args.view c.window_view-from.result c.window_view-from.ensures c.input_at-first.result c.input_at-second.result c.input_at-third.result c.input_at-first.ensures c.input_at-second.ensures c.input_at-third.ensures
    c.deref.result.now c.deref-2.result.now c.deref-3.result.now x y z).0

pub returns : goal.returns
returns c =
    let stated = c.args.basis.now.stated.now in
    let is = c.node_in-node.ensures in
    let x = lent stated (λ v. v.items) c.in_ok-a.field-0 c.in_ok-a.ensures c.in-Some.a c.deref.result.now c.in-Some.is c.deref.ensures.value in
    let y = lent stated (λ v. v.items) c.in_ok-b.field-0 c.in_ok-b.ensures c.in-Some-2.b c.deref-2.result.now c.in-Some-2.is c.deref-2.ensures.value in
    let z = lent stated (λ v. v.items) c.in_ok-c.field-0 c.in_ok-c.ensures c.in-Some-3.c c.deref-3.result.now c.in-Some-3.is c.deref-3.ensures.value in
    let all = windows-stated c.requires.kept c.node_in-node.result.now is (c.requires.kind _ is) c.args.view c.window_view-from.result c.window_view-from.ensures c.input_at-first.result c.input_at-second.result c.input_at-third.result c.input_at-first.ensures c.input_at-second.ensures c.input_at-third.ensures
    c.deref.result.now c.deref-2.result.now c.deref-3.result.now x y z in
    let fits : FitsSigned w64 c.window_value.result = search rules in
    let same = to_z-of_z w64 _ fits in
    all.1 _ (same ∙ c.window_value.ensures.value) (subst IsCell (sym same) c.window_value.ensures.cell)

pub window_stated-requires-clause-input : goal.window_stated-requires-clause-input
window_stated-requires-clause-input c = one-within c.args.basis.now.checked.now c.requires.kept.at.on.ready.checked c.args.t.0 c.node_in-node.result.now c.node_in-node.ensures 0 c.input_at-first.result c.input_at-first.ensures

pub window_stated-requires-2-clause-input : goal.window_stated-requires-2-clause-input
window_stated-requires-2-clause-input c = one-within c.args.basis.now.checked.now c.requires.kept.at.on.ready.checked c.args.t.0 c.node_in-node.result.now c.node_in-node.ensures 1 c.input_at-second.result c.input_at-second.ensures

pub window_stated-requires-3-clause-input : goal.window_stated-requires-3-clause-input
window_stated-requires-3-clause-input c = one-within c.args.basis.now.checked.now c.requires.kept.at.on.ready.checked c.args.t.0 c.node_in-node.result.now c.node_in-node.ensures 2 c.input_at-third.result c.input_at-third.ensures
