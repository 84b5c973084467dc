use Rattle.std.proofs.Common.{◌≡◌, drop}
use Rattle.csv.specs.Reading.{records, default_config}
use Rattle.pl_records.proofs.plain.behind_line_ends.Given as goal

abbrev pub invariant-loop-i : goal.invariant-loop-i
invariant-loop-i l = records default_config (drop l.i l.text) ≡ records default_config l.text
