use Rattle.std.proofs.Common.{ap, ◌∙◌, sym, length}
use Rattle.pl_terms.proofs.Graphs.{graph-long}
use Rattle.pl_exec.proofs.chunk.term_count.Goals as goal

pub returns : goal.returns
returns c = c.len.ensures.value ∙ ap (λ g. length g) c.graph.ensures.value ∙ sym (graph-long c.args.chunk.now.checked.now.graph)
