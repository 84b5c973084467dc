use Rattle.pl_outside.specs.Lists.{IsAscending}
use Rattle.pl_cases.proofs.parts.rows_of.Given as goal

abbrev pub invariant-loop-line : goal.invariant-loop-line
invariant-loop-line l = IsAscending l.rows.items
