use Rattle.std.proofs.Common.{refl}
use Rattle.pl_pipeline.specs.Term.{term_at}
use Rattle.pl_pipeline.proofs.Distinct.{one_tree}
use Rattle.pl_terms.specs.Nodes.{graph_of}
use Rattle.pl_check.proofs.statements.completed.Goals as goal

pub returns-in-Ok-clause-shared : goal.returns-in-Ok-clause-shared
returns-in-Ok-clause-shared c = λ j k h i e. let g = graph_of c.whole.result.graph in one_tree g c.whole.ensures.checked.graph (term_at g k) j k h i e refl
