use Rattle.std.proofs.Common.{◌≡◌, ◌+◌, ◌≤◌, length}
use Rattle.std.specs.List.{position_or_len}
use Rattle.pl_spec.specs.Limits.{most_numbers}
use Rattle.pl_numbers.specs.Beside.{begins_among}
use Rattle.pl_numbers.proofs.join.line_from.Given as goal

abbrev pub invariant-rows : goal.invariant-rows
invariant-rows l = record {
  place : l.line + position_or_len (begins_among l.names) l.records.left ≡ 2 + position_or_len (begins_among l.names) l.fn.records.left;
  few : l.line + length l.records.left ≤ 2 + most_numbers;
}

abbrev pub decreases-rows : goal.decreases-rows
decreases-rows l = length l.records.left
