use Rattle.pl_check.proofs.Agreed.{typed-are-trees, faults-are-trees, typed-unless-many}
use Rattle.pl_check.proofs.laws.scripts_are_numbered.Goals as goal

pub returns-clause-trees : goal.returns-clause-trees
returns-clause-trees c = typed-are-trees

pub returns-clause-faults : goal.returns-clause-faults
returns-clause-faults c = faults-are-trees

pub returns-clause-many : goal.returns-clause-many
returns-clause-many c = typed-unless-many
