use Rattle.pl_records.proofs.LineEnds.{last-end}
use Rattle.pl_records.proofs.pieces.last_line_end.Goals as goal

pub returns : goal.returns
returns c = last-end c.args.text.now _ c.memrchr2.ensures
