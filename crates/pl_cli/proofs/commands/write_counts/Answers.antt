use Rattle.std.proofs.Common.{◌≡◌, ◌∙◌, sym, ap, List, length, [], ◌∷◌, codes, decimal}
use Rattle.pl_outside.proofs.Pieces.{writes-over}
use Rattle.pl_terms.specs.declared.node.Node.{Node}
use Rattle.pl_terms.specs.Nodes.{graph_of}
use Rattle.pl_terms.specs.Checked.{columns_of}
use Rattle.pl_terms.proofs.Graphs.{graph-long, columns-long}
use Rattle.pl_cli.proofs.Counts.{pieces-are}
use Rattle.pl_cli.proofs.commands.write_counts.Goals as goal

pub returns-clause-writes : goal.returns-clause-writes
returns-clause-writes g c =
    let p = c.args.checked.now in
    let count : c.len.result ≡ length (graph_of p.graph) = c.len.ensures.value ∙ ap (λ (ns : List Node). length ns) c.graph.ensures.value ∙ sym (graph-long p.graph) in
    let terms : c.format-terms.result.now ≡ decimal (length (graph_of p.graph)) = c.format-terms.ensures.text ∙ ap decimal count in
    let columns : c.format-columns.result.now ≡ decimal (length (columns_of p.columns)) = c.format-columns.ensures.text ∙ ap decimal (c.columns.ensures ∙ sym (columns-long p.columns)) in
    rw (← terms, ← columns)
    (writes-over (pieces-are (codes "ok: ") c.format-terms.result.now (codes " terms, ") c.format-columns.result.now (codes " columns") (10 ∷ [])) c.write_in_pieces.ensures.writes)
