use Rattle.std.proofs.Common.{◌≡◌, length, ap, arith, ◌∙◌, rules, FitsSigned, w64}
use Rattle.std.proofs.lemmas.Int.{to_z-of_z}
use Rattle.pl_pipeline.specs.Term.{term_at}
use Rattle.pl_pipeline.specs.Value.{empty, number_of, sort_kind}
use Rattle.pl_pipeline.proofs.Cells.{empty-cell}
use Rattle.pl_terms.specs.Nodes.{graph_of}
use Rattle.pl_terms.proofs.Graphs.{graph-long}
use Rattle.pl_daily.proofs.room.empty_of.Goals as goal

pub empty_value-requires : goal.empty_value-requires
empty_value-requires c =
    let e : length c.graph.result.now ≡ length c.args.checked.now.graph = ap (λ ns. length ns) c.graph.ensures.value in
    let l = graph-long c.args.checked.now.graph in
    omega (arith, e, l, c.requires.within)

pub returns-clause-value : goal.returns-clause-value
returns-clause-value c =
    let fr : FitsSigned w64 c.empty_value.result = search rules in
    to_z-of_z w64 _ fr ∙ c.empty_value.ensures ∙ ap (λ ns. number_of (empty (sort_kind (term_at (graph_of ns) c.args.k)))) c.graph.ensures.value

pub returns-clause-cell : goal.returns-clause-cell
returns-clause-cell c =
    let fr : FitsSigned w64 c.empty_value.result = search rules in
    rw (to_z-of_z w64 _ fr, c.empty_value.ensures) (empty-cell (sort_kind (term_at (graph_of c.graph.result.now) c.args.k)))
