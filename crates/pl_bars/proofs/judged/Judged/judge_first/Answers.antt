use Rattle.std.proofs.Common.{◌∙◌, sym}
use Rattle.pl_bars.proofs.BarPieces.{first-rows, first-fault, bad-header, next-left}
use Rattle.pl_bars.proofs.judged.Judged.judge_first.Goals as goal

pub returns-then-not-has_fields-clause-fault : goal.returns-then-not-has_fields-clause-fault
returns-then-not-has_fields-clause-fault c none =
    bad-header c.args.sessions.now c.args.assets.now _ _ c.args.records.now.left
    (next-left c.args.records.now c.next.new.self _ c.in_ok-next.ensures.ok c.if-not-branch.false)
    (sym c.has_fields.ensures ∙ c.if-not-has_fields.true)

pub returns-clause-rows : goal.returns-clause-rows
returns-clause-rows c none =
    first-rows c.args.sessions.now c.args.assets.now _ _ _ _ _ c.args.records.now.left c.judge_rows.ensures.headed
    (next-left c.args.records.now c.next.new.self _ c.in_ok-next.ensures.ok c.if-not-branch.false)
    (sym c.has_fields.ensures ∙ c.if-not-has_fields.false)
    (rw none at c.judge_rows.ensures.exact)

pub returns-clause-fault : goal.returns-clause-fault
returns-clause-fault c none =
    first-fault c.args.sessions.now c.args.assets.now _ _ _ _ c.args.records.now.left
    (next-left c.args.records.now c.next.new.self _ c.in_ok-next.ensures.ok c.if-not-branch.false)
    (sym c.has_fields.ensures ∙ c.if-not-has_fields.false)
    (rw none at c.judge_rows.ensures.exact)
