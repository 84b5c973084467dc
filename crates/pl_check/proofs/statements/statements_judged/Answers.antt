use Rattle.std.proofs.Common.{◌+◌, drop, sym, ap, subst, ◌∙◌, arith, rules}
use Rattle.std.proofs.lemmas.List.{drop_all}
use Rattle.std.proofs.lemmas.Result.{IfOk-at_ok}
use Rattle.pl_syntax.specs.Statements.{statement_of, statements_of}
use Rattle.pl_grammar.specs.Whole.{are_sound}
use Rattle.pl_syntax.specs.Sound.{is_written}
use Rattle.pl_terms.specs.Nodes.{interned}
use Rattle.pl_check.specs.Answers.{Fails}
use Rattle.pl_check.specs.Judging.{judged_of}
use Rattle.pl_check.specs.Standing.{JudgedIsSound}
use Rattle.pl_check.specs.Faults.{◌>>=◌}
use Rattle.pl_check.specs.Typed.{statement_judged, statements_judged}
use Rattle.pl_check.proofs.Behind.{fails-then}
use Rattle.pl_check.proofs.Stated.{statement-kept, tree-sound, next-statement}
use Rattle.pl_check.proofs.statements.statements_judged.Goals as goal

pub statement_judged-requires-clause-written : goal.statement_judged-requires-clause-written
statement_judged-requires-clause-written c =
    let e = next-statement c.args.statements.now c.loop-statement.statement-index c.statement-item.result c.loop-statement-test.true c.statement-item.is in
    (tree-sound (statement_of c.statement-item.result) (statements_of (drop (c.loop-statement.statement-index + 1) c.args.statements.now)) (sym (ap (are_sound is_written) e) ∙ c.loop-statement.invariant.2)).0

pub returns-in_err-statement_judged : goal.returns-in_err-statement_judged
unfolding statements_judged
returns-in_err-statement_judged c =
    let j = judged_of c.loop-statement.judged in
    let s = statement_of c.statement-item.result in
    let ss = statements_of (drop (c.loop-statement.statement-index + 1) c.args.statements.now) in
    let e = next-statement c.args.statements.now c.loop-statement.statement-index c.statement-item.result c.loop-statement-test.true c.statement-item.is in
    let f : Fails c.in_err-statement_judged.field-0.0 (statements_judged interned c.args.version (judged_of c.args.judged.now) (statements_of c.args.statements.now)) =
    subst (Fails c.in_err-statement_judged.field-0.0) (sym (ap (statements_judged interned c.args.version j) e) ∙ c.loop-statement.invariant.0)
    (fails-then c.in_err-statement_judged.field-0.0 (statement_judged interned c.args.version j s)
    (λ x. statements_judged interned c.args.version x ss) c.in_err-statement_judged.ensures) in
    search (rules, f)

pub loop-statement-preserved : goal.loop-statement-preserved
unfolding statements_judged
loop-statement-preserved c =
    let j = judged_of c.loop-statement.judged in
    let s = statement_of c.statement-item.result in
    let ss = statements_of (drop (c.loop-statement.statement-index + 1) c.args.statements.now) in
    let e = next-statement c.args.statements.now c.loop-statement.statement-index c.statement-item.result c.loop-statement-test.true c.statement-item.is in
    let y = tree-sound s ss (sym (ap (are_sound is_written) e) ∙ c.loop-statement.invariant.2) in
    let judged = c.in_ok-statement_judged.ensures in (
      sym (ap (λ r. r >>= λ x. statements_judged interned c.args.version x ss) judged)
          ∙ sym (ap (statements_judged interned c.args.version j) e) ∙ c.loop-statement.invariant.0,
      IfOk-at_ok JudgedIsSound judged (statement-kept c.args.version j s y.0 c.loop-statement.invariant.1),
      y.1,
    )

pub returns : goal.returns
unfolding statements_judged
returns c =
    sym c.loop-statement.invariant.0 ∙ ap (λ ss. statements_judged interned c.args.version (judged_of c.loop-statement.judged) (statements_of ss)) (drop_all c.loop-statement.statement-index c.args.statements.now (omega arith))
