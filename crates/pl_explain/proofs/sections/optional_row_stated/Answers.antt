use Rattle.std.proofs.Common.{None, Some}
use Rattle.pl_explain.proofs.Given.{none-of, read-as}
use Rattle.pl_explain.proofs.Entries.{no-row, one-row}
use Rattle.pl_explain.proofs.sections.optional_row_stated.Goals as goal

pub returns-in_default : goal.returns-in_default
returns-in_default c = no-row c.args.basis.now c.args.session c.args.u (none-of c.args.u c.in_default.not-Some)

pub returns-in-None : goal.returns-in-None
returns-in-None c =
    one-row c.args.basis.now c.args.session c.args.u c.in-Some.u c.in-Some.is None
    (read-as c.args.basis.now.stated.now (λ v. v.items) c.in_ok-row_stated.field-0 c.in_ok-row_stated.ensures None c.in-None.is)

pub returns-in-Some-2 : goal.returns-in-Some-2
returns-in-Some-2 c =
    one-row c.args.basis.now c.args.session c.args.u c.in-Some.u c.in-Some.is (Some c.in-Some-2.row.items)
    (read-as c.args.basis.now.stated.now (λ v. v.items) c.in_ok-row_stated.field-0 c.in_ok-row_stated.ensures (Some c.in-Some-2.row) c.in-Some-2.is)
