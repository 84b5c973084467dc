use Rattle.std.proofs.lemmas.Result.{err_from_is_err_and}
use Rattle.pl_terms.specs.Checked.{pipeline_of}
use Rattle.pl_load.proofs.Planned.{has-rows}
use Rattle.pl_load.proofs.Ranges.{has-plan, no-plan}
use Rattle.pl_load.proofs.range.judge_plan.Goals as goal

pub returns-in_err-plan-clause-ends : goal.returns-in_err-plan-clause-ends
returns-in_err-plan-clause-ends c =
    let p = err_from_is_err_and c.from_residual.result c.from_residual.ensures.1 in
    let stops = no-plan c.args.sessions.now (pipeline_of c.args.checked.now) c.graph-terms.ensures.checked c.args.range.from c.args.range.to _ c.in_err-plan.ensures.fault in
    rw (p.1, p.2.is) (record { passed = tt; stopped = stops })

pub returns-clause-ends : goal.returns-clause-ends
returns-clause-ends c =
    let plan = c.in_ok-plan.ensures in
    let has = has-plan c.args.sessions.now (pipeline_of c.args.checked.now) c.graph-terms.ensures.checked c.in_ok-plan.field-0 plan.plan in
    record { passed = rw (plan.from, plan.to) at has; stopped = tt }

pub returns-clause-rows : goal.returns-clause-rows
returns-clause-rows c =
    has-rows (pipeline_of c.args.checked.now) c.graph-terms.ensures.checked c.args.sessions.now c.in_ok-plan.field-0 c.in_ok-plan.ensures.plan
