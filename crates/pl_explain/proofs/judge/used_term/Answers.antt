use Rattle.std.proofs.Common.{length, List, ap, arith}
use Rattle.pl_terms.specs.declared.node.Node.{Node}
use Rattle.pl_terms.specs.Checked.{pipeline_of}
use Rattle.pl_terms.proofs.Graphs.{graph-long}
use Rattle.pl_explain.proofs.Used.{past-unused}
use Rattle.pl_explain.proofs.judge.used_term.Goals as goal

pub returns-then-term-len-clause-none : goal.returns-then-term-len-clause-none
returns-then-term-len-clause-none c =
    let p = c.args.checked.now in
    let own = ap (λ (ns : List Node). length ns) c.graph-graph.ensures.value in
    let long = graph-long p.graph in
    past-unused (pipeline_of p) c.args.term (omega (arith, c.if-term-len.true, c.len.ensures.value, own, long))
