use Rattle.std.proofs.Common.{◌≡◌, ◌+◌, arith}
use Rattle.std.proofs.lemmas.Result.{IfOk-from_err}
use Rattle.pl_terms.specs.Checked.{pipeline_of}
use Rattle.pl_terms.specs.Uses.{outputs}
use Rattle.pl_planner.proofs.Tables.{next-row}
use Rattle.pl_planner.proofs.rows.gather_rows.Goals as goal

pub loop-session-preserved : goal.loop-session-preserved
loop-session-preserved c = record {
  from = (let l = c.loop-session.invariant.from in omega arith);
  to = (let l = c.loop-session-test.true in omega arith);
  rows = next-row c.args.sessions.now (pipeline_of c.args.checked.now).graph (outputs (pipeline_of c.args.checked.now)) c.args.from c.loop-session.session c.loop-session.extras.items c.push_row.new.extras.items c.in_ok-uses.uses.items c.deref.result.now
      c.loop-session.invariant.from c.loop-session.invariant.rows c.in_ok-uses.ensures.uses c.in_ok-uses.ensures.extras c.in_ok-push_row.ensures c.deref.ensures.value;
}

pub returns-in_err-uses : goal.returns-in_err-uses
returns-in_err-uses c = IfOk-from_err _ _ c.from_residual.ensures.0

pub returns-in_err-push_row : goal.returns-in_err-push_row
returns-in_err-push_row c = IfOk-from_err _ _ c.from_residual-in_err-push_row.ensures.0

pub returns : goal.returns
returns c =
    let e : c.args.to + 1 ≡ c.loop-session.session = omega (arith, c.loop-session-test.false, c.loop-session.invariant.to) in
    rw e c.loop-session.invariant.rows
