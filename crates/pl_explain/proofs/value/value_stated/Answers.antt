use Rattle.std.proofs.Common.{Some, ap, sym, ◌∙◌, rules, w64, FitsSigned}
use Rattle.std.proofs.lemmas.Int.{to_z-of_z}
use Rattle.std.proofs.lemmas.Result.{IfOk-weaker}
use Rattle.pl_explain.proofs.Values.{gone-stated, barred-stated, mask-lacks, passed-kept, passed-stated}
use Rattle.pl_explain.proofs.value.value_stated.Goals as goal

pub returns-then-not-exists-clause-given : goal.returns-then-not-exists-clause-given
returns-then-not-exists-clause-given c =
    let fits : FitsSigned w64 c.empty_value.result = search rules in
    gone-stated c.requires.at c.requires.term c.args.view c.graph.result.now c.graph.ensures.value _ (to_z-of_z w64 _ fits ∙ c.empty_value.ensures) (sym c.exists.ensures.value ∙ c.if-not-exists.true)

pub kept_stated-requires-clause-kept : goal.kept_stated-requires-clause-kept
kept_stated-requires-clause-kept c =
    let there = sym c.exists.ensures.value ∙ c.if-not-exists.false in
    passed-kept c.requires.at c.requires.term c.args.view c.node_in-node.result.now c.node_in-node.ensures there c.mask_stated.result c.mask_stated.ensures (c.in-Some-true.is ∙ ap Some c.in-Some-true.field-0-test)

pub returns-in-None-clause-given : goal.returns-in-None-clause-given
returns-in-None-clause-given c =
    let there = sym c.exists.ensures.value ∙ c.if-not-exists.false in
    mask-lacks c.requires.at c.requires.term c.args.view c.node_in-node.result.now c.node_in-node.ensures there c.mask_stated.result c.mask_stated.ensures c.in-None.is

pub returns-in-Some-true-clause-given : goal.returns-in-Some-true-clause-given
returns-in-Some-true-clause-given c =
    let there = sym c.exists.ensures.value ∙ c.if-not-exists.false in
    IfOk-weaker c.kept_stated.result _ _ (passed-stated c.requires.at c.requires.term c.args.view c.node_in-node.result.now c.node_in-node.ensures there c.mask_stated.result c.mask_stated.ensures (c.in-Some-true.is ∙ ap Some c.in-Some-true.field-0-test)) c.kept_stated.ensures.given

pub returns-in-Some-false-clause-given : goal.returns-in-Some-false-clause-given
returns-in-Some-false-clause-given c =
    let there = sym c.exists.ensures.value ∙ c.if-not-exists.false in
    let fits : FitsSigned w64 c.empty_value-in-Some-false.result = search rules in
    barred-stated c.requires.at c.requires.term c.args.view c.graph-in-Some-false.result.now c.graph-in-Some-false.ensures.value _ (to_z-of_z w64 _ fits ∙ c.empty_value-in-Some-false.ensures) c.node_in-node.result.now c.node_in-node.ensures there
    c.mask_stated.result c.mask_stated.ensures (c.in-Some-false.is ∙ ap Some c.in-Some-false.field-0-test)
