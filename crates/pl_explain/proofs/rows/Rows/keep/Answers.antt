use Rattle.pl_explain.proofs.Looking.{row-more}
use Rattle.pl_explain.proofs.rows.Rows.keep.Goals as goal

pub returns : goal.returns
returns c =
    row-more c.args.self.now (record { rows = c.insert.new.self }) c.args.term c.args.session c.key.result c.args.row c.key.ensures c.in_ok-insert.ensures.updates.0
