use Rattle.pl_cross.proofs.Sections.{term-value, node-value}
use Rattle.pl_cross.proofs.laws.sections_are_values.Goals as goal

pub returns-clause-terms : goal.returns-clause-terms
returns-clause-terms c = term-value

pub returns-clause-nodes : goal.returns-clause-nodes
returns-clause-nodes c = node-value
