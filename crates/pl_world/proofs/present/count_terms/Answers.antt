use Rattle.std.proofs.Common.{ap, ◌∙◌, sym, length}
use Rattle.pl_terms.proofs.Graphs.{graph-long}
use Rattle.pl_world.proofs.present.count_terms.Goals as goal

pub returns-clause-count : goal.returns-clause-count
returns-clause-count c = c.len.ensures.value ∙ ap (λ ns. length ns) c.graph.ensures.value ∙ sym (graph-long c.args.checked.now.graph)
