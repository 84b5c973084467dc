use Rattle.std.proofs.Common.{◌≡◌, drop}
use Rattle.pl_check.specs.Operations.{operation_in}
use Rattle.pl_check.specs.Tables.{rows_of}
use Rattle.pl_check.proofs.operation.operation_in.Given as goal

abbrev pub invariant-loop-known : goal.invariant-loop-known
invariant-loop-known l = operation_in (rows_of l.table) l.version l.name ≡ operation_in (rows_of (drop l.known-index l.table)) l.version l.name
