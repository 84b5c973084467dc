use Rattle.std.proofs.Common.{sym, subst, ◌∙◌, rules, w64, FitsSigned}
use Rattle.std.proofs.lemmas.Int.{to_z-of_z}
use Rattle.pl_spec.specs.Rounding.{IsCell}
use Rattle.pl_pipeline.specs.Value.{sort_kind}
use Rattle.pl_pipeline.specs.Term.{term_at}
use Rattle.pl_pipeline.proofs.Cells.{empty-cell}
use Rattle.pl_terms.specs.Nodes.{graph_of}
use Rattle.pl_world.proofs.Evaluated.{lacks-value}
use Rattle.pl_explain.specs.Given.{sid_in}
use Rattle.pl_explain.proofs.Entries.{living-none}
use Rattle.pl_explain.proofs.sections.cell_stated.Goals as goal

pub returns-else-exists : goal.returns-else-exists
returns-else-exists c =
    let b = c.args.basis.now in
    let fits : FitsSigned w64 c.empty_value.result = search rules in
    let gone = sym c.exists.ensures.value ∙ c.if-exists.false in
    let is = to_z-of_z w64 _ fits ∙ c.empty_value.ensures in
    living-none b c.args.u.0 c.args.col c.args.session _ gone
    (is ∙ lacks-value b.world b.checked.now c.requires.at.on.ready.checked c.args.u.0 c.args.session (sid_in b c.args.col) c.graph.result.now c.graph.ensures.value c.requires.term gone)
    (subst IsCell (sym is) (empty-cell (sort_kind (term_at (graph_of c.graph.result.now) c.args.u.0))))
