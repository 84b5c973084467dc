use Rattle.std.proofs.Common.{◌+◌, ◌<◌, length, ap, rules}
use Rattle.std.specs.Option.{ok_or}
use Rattle.pl_records.specs.Reading.{at_line}
use Rattle.pl_records.proofs.Readings.{none_read, goes_on, is_done}
use Rattle.pl_spec.specs.Limits.{most_numbers}
use Rattle.pl_numbers.specs.Numbers.{BadField}
use Rattle.pl_numbers.specs.NumberPlaces.{shown_rows}
use Rattle.pl_numbers.proofs.stated.put_stated.Goals as goal

pub rows-init : goal.rows-init
rows-init c = record { read = none_read c.requires.none; numbered = c.requires.numbered }

pub rows-preserved : goal.rows-preserved
rows-preserved c =
    let row = rw c.field.ensures at c.in_ok-push.ensures.rows in
    let room : length (shown_rows c.rows.rows) < most_numbers = search rules in
    let exact = ap (λ o. at_line (2 + length (shown_rows c.rows.rows)) (ok_or o BadField))
    (rw c.in-Some.is at c.stated_number.ensures.exact) in
    record {
      read = goes_on c.rows.invariant.read c.in_ok-next.ensures.ok c.if-branch.true room exact row;
      numbered = c.in_ok-push.ensures.numbered;
    }

pub returns-clause-exact : goal.returns-clause-exact
returns-clause-exact c = λ t. is_done _ c.rows.invariant.read c.in_ok-next.ensures.ok c.if-branch.false
