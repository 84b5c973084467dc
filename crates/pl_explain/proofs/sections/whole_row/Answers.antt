use Rattle.std.proofs.Common.{None, Some, option_map}
use Rattle.pl_explain.proofs.Given.{none-of, lent, read-as}
use Rattle.pl_explain.proofs.Values.{input-within, mask-within, group-within}
use Rattle.pl_explain.proofs.Kept.{no-values, no-masks, no-groups, are-rows, row-stands}
use Rattle.pl_explain.proofs.sections.whole_row.Goals as goal

pub row_stated-requires-clause-term : goal.row_stated-requires-clause-term
row_stated-requires-clause-term c =
    let is = c.node_in-node.ensures in
    input-within c.args.basis.now.checked.now c.requires.on.ready.checked c.args.t.0 c.node_in-node.result.now is c.section_input-input.result (c.section_input-input.ensures _ is)

pub optional_row_stated-requires-clause-term : goal.optional_row_stated-requires-clause-term
optional_row_stated-requires-clause-term c = mask-within c.args.basis.now.checked.now c.requires.on.ready.checked c.args.t.0 c.node_in-node.result.now c.node_in-node.ensures

pub optional_row_stated-requires-2-clause-term : goal.optional_row_stated-requires-2-clause-term
optional_row_stated-requires-2-clause-term c = group-within c.args.basis.now.checked.now c.requires.on.ready.checked c.args.t.0 c.node_in-node.result.now c.node_in-node.ensures

pub returns-in_default-clause-none : goal.returns-in_default-clause-none
returns-in_default-clause-none c =
    let is = c.node_in-node.ensures in
    no-values c.requires.on c.args.t.0 c.node_in-node.result.now is (c.requires.kind _ is) c.section_input-input.result (c.section_input-input.ensures _ is)
    (read-as c.args.basis.now.stated.now (λ v. v.items) c.in_ok-values.field-0 c.in_ok-values.ensures None (none-of c.in_ok-values.field-0 c.in_default.not-Some))

pub returns-in_default-2-clause-none : goal.returns-in_default-2-clause-none
returns-in_default-2-clause-none c =
    no-masks c.requires.on c.args.t.0 c.node_in-node.result.now c.node_in-node.ensures
    (read-as c.args.basis.now.stated.now (option_map (λ v. v.items)) c.in_ok-mask.field-0 c.in_ok-mask.ensures None (none-of c.in_ok-mask.field-0 c.in_default-2.not-Some))

pub returns-in_default-3-clause-none : goal.returns-in_default-3-clause-none
returns-in_default-3-clause-none c =
    no-groups c.requires.on c.args.t.0 c.node_in-node.result.now c.node_in-node.ensures
    (read-as c.args.basis.now.stated.now (option_map (λ v. v.items)) c.in_ok-groups.field-0 c.in_ok-groups.ensures None (none-of c.in_ok-groups.field-0 c.in_default-3.not-Some))

pub section_row-requires-clause-rows : goal.section_row-requires-clause-rows
section_row-requires-clause-rows c =
    let stated = c.args.basis.now.stated.now in
    let is = c.node_in-node.ensures in
    let x = lent stated (λ v. v.items) c.in_ok-values.field-0 c.in_ok-values.ensures c.in-Some.values c.deref.result.now c.in-Some.is c.deref.ensures.value in
    let y = read-as stated (option_map (λ v. v.items)) c.in_ok-mask.field-0 c.in_ok-mask.ensures (Some c.in-Some-2.mask) c.in-Some-2.is in
    let z = read-as stated (option_map (λ v. v.items)) c.in_ok-groups.field-0 c.in_ok-groups.ensures (Some c.in-Some-3.groups) c.in-Some-3.is in
    are-rows c.requires.on c.args.t.0 c.node_in-node.result.now is (c.requires.kind _ is) c.section_input-input.result (c.section_input-input.ensures _ is) c.deref.result.now (option_map (λ v. v.items) c.in-Some-2.mask) (option_map (λ v. v.items) c.in-Some-3.groups) x y z

pub returns-clause-row : goal.returns-clause-row
returns-clause-row c =
    let stated = c.args.basis.now.stated.now in
    let is = c.node_in-node.ensures in
    let x = lent stated (λ v. v.items) c.in_ok-values.field-0 c.in_ok-values.ensures c.in-Some.values c.deref.result.now c.in-Some.is c.deref.ensures.value in
    let y = read-as stated (option_map (λ v. v.items)) c.in_ok-mask.field-0 c.in_ok-mask.ensures (Some c.in-Some-2.mask) c.in-Some-2.is in
    let z = read-as stated (option_map (λ v. v.items)) c.in_ok-groups.field-0 c.in_ok-groups.ensures (Some c.in-Some-3.groups) c.in-Some-3.is in
    record {
      is = c.in_ok-section_row.ensures.row;
      cells = c.in_ok-section_row.ensures.cells;
      stand = row-stands c.requires.on c.args.t.0 c.node_in-node.result.now is (c.requires.kind _ is) c.section_input-input.result (c.section_input-input.ensures _ is) c.deref.result.now (option_map (λ v. v.items) c.in-Some-2.mask) (option_map (λ v. v.items) c.in-Some-3.groups) x y z;
    }
