use Rattle.std.proofs.Common.{◌++◌, ◌∙◌, ap, map}
use Rattle.std.proofs.lemmas.List.{take_all}
use Rattle.std.proofs.lemmas.Result.{IfOk-from_err}
use Rattle.pl_planner.specs.Rows.{extra_in}
use Rattle.pl_planner.proofs.Tables.{term-more}
use Rattle.pl_planner.proofs.rows.push_row.Goals as goal

pub returns-in_err-push : goal.returns-in_err-push
returns-in_err-push c = IfOk-from_err _ _ c.from_residual.ensures.0

pub loop-own-preserved : goal.loop-own-preserved
loop-own-preserved c =
    term-more c.args.extras.now.items c.loop-own.extras.items c.push.new.self.items c.args.uses.now c.loop-own.own-index c.extra_in.result _ c.loop-own-test.true
    c.loop-own.invariant c.in_ok-push.ensures.items c.extra_in.ensures

pub returns : goal.returns
returns c = c.loop-own.invariant ∙ ap (λ us. c.args.extras.now.items ++ map extra_in us) (take_all c.loop-own.own-index c.args.uses.now c.loop-own-test.false)
