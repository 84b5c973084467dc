use Rattle.pl_terms.proofs.Numbered.{old-stays, new-follows, full-refuses, refused-full}
use Rattle.pl_terms.proofs.laws.nodes_are_numbered.Goals as goal

pub returns-clause-old : goal.returns-clause-old
returns-clause-old c = old-stays

pub returns-clause-new : goal.returns-clause-new
returns-clause-new c = new-follows

pub returns-clause-full : goal.returns-clause-full
returns-clause-full c = λ g n. (refused-full g n, full-refuses g n)
