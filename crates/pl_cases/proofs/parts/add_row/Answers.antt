use Rattle.std.proofs.Common.{rules}
use Rattle.pl_cases.proofs.Ascending.{ascends}
use Rattle.pl_cases.proofs.parts.add_row.Goals as goal

pub returns : goal.returns
returns c = search (rules, ascends)
