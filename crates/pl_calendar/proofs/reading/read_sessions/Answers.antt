use Rattle.std.proofs.Common.{◌≡◌, ◌<◌, arith, length}
use Rattle.std.proofs.lemmas.Bool.Decides.{nat_tests}
use Rattle.std.proofs.lemmas.Result.{err_from_is_err_and}
use Rattle.pl_records.specs.Records.{csv_records}
use Rattle.pl_calendar.specs.Faults.{fault_of}
use Rattle.pl_calendar.proofs.DaysRead.{sessions_of-err_if, sessions_of-ok, sessions_of-empty}
use Rattle.pl_calendar.proofs.reading.read_sessions.Goals as goal

pub returns-in_err-days : goal.returns-in_err-days
returns-in_err-days c =
    let p = err_from_is_err_and c.from_residual.result c.from_residual.ensures.1 in
    record { exact = rw (p.1, p.2) (sessions_of-err_if (csv_records c.args.bytes.now) (fault_of c.in_err-days.field-0.0) c.in_err-days.ensures) }

pub returns-then-is_empty : goal.returns-then-is_empty
returns-then-is_empty c = let n : length c.in_ok-days.days.items ≡ 0 = grind (arith, nat_tests, c.is_empty.ensures) in
    record { exact = sessions_of-empty (csv_records c.args.bytes.now) c.in_ok-days.days.items c.in_ok-days.ensures n }

pub returns : goal.returns
returns c = let n : 0 < length c.in_ok-days.days.items = grind (arith, nat_tests, c.is_empty.ensures) in
    record { exact = sessions_of-ok (csv_records c.args.bytes.now) c.in_ok-days.days.items c.in_ok-days.ensures n }
