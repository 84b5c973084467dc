use Rattle.std.proofs.Common.{subst}
use Rattle.pl_pipeline.specs.Term.{IsGraph}
use Rattle.pl_terms.specs.Nodes.{graph_of}
use Rattle.pl_terms.proofs.graph.Graph.len.Goals as goal

pub returns-clause-graph : goal.returns-clause-graph
returns-clause-graph c = subst (λ ns. IsGraph (graph_of ns)) c.self.view_is c.self.invariant.graph
