use Rattle.pl_bars.proofs.BarPieces.{more-rows, more-fault}
use Rattle.pl_bars.proofs.judged.Judged.judge.Goals as goal

pub returns-then-self-clause-rows : goal.returns-then-self-clause-rows
returns-then-self-clause-rows c front were =
    more-rows c.args.sessions.now c.args.assets.now _ _ _ _ _ front _ c.if-self.true c.judge_rows.ensures.headed were
    (rw c.new-records.ensures.all at c.judge_rows.ensures.exact)

pub returns-then-self-clause-fault : goal.returns-then-self-clause-fault
returns-then-self-clause-fault c front were =
    more-fault c.args.sessions.now c.args.assets.now _ _ _ _ front _ c.if-self.true were
    (rw c.new-records.ensures.all at c.judge_rows.ensures.exact)
