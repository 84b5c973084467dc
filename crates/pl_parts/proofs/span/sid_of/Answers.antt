use Rattle.std.proofs.Common.{sym}
use Rattle.pl_parts.proofs.ByColumn.{sid-of}
use Rattle.pl_parts.proofs.span.sid_of.Goals as goal

pub returns : goal.returns
returns c = sym (sid-of c.args.world.now.assets.now c.args.col c.row.result c.row.ensures)
