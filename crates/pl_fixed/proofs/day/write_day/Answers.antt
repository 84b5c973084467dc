use Rattle.std.proofs.Common.{FitsSigned, w32}
use Rattle.std.proofs.lemmas.Int.{to_z-of_z}
use Rattle.pl_spec.proofs.DatesRead.{date_in-IsDate}
use Rattle.pl_spec.proofs.DatesWritten.{date_text-IsDate}
use Rattle.pl_fixed.proofs.day.write_day.Goals as goal

pub returns-clause-text : goal.returns-clause-text
returns-clause-text c =
    let fits : FitsSigned w32 c.args.day = c.ranges.day in
    date_text-IsDate c.put_date.new.out c.args.day (rw to_z-of_z at c.put_date.ensures)

pub returns-clause-reads_back : goal.returns-clause-reads_back
returns-clause-reads_back c =
    let fits : FitsSigned w32 c.args.day = c.ranges.day in
    date_in-IsDate c.put_date.new.out c.args.day (rw to_z-of_z at c.put_date.ensures)
