use Rattle.std.proofs.Common.{sym}
use Rattle.pl_adjust_sql.proofs.Refusing.{no_integer}
use Rattle.pl_adjust_sql.proofs.read.integer_at.Goals as goal

pub returns-in_err-get-clause-refused : goal.returns-in_err-get-clause-refused
returns-in_err-get-clause-refused c refused =
    no_integer c.args.row.now c.args.place c.in_err-get.field-0.0 (sym (rw refused at c.from_residual.ensures.1)) c.in_err-get.ensures.kind
