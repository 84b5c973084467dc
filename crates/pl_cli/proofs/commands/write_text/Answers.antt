use Rattle.pl_cli.proofs.Written.{writes-ok, writes-err}
use Rattle.pl_cli.proofs.commands.write_text.Goals as goal

pub returns-in-Ok-clause-writes : goal.returns-in-Ok-clause-writes
returns-in-Ok-clause-writes g c = writes-ok c.in-Ok.ensures.writes

pub returns-in-Err-clause-writes : goal.returns-in-Err-clause-writes
returns-in-Err-clause-writes g c = writes-err c.in-Err.ensures.writes
