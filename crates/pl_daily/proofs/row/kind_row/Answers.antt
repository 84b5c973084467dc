use Rattle.std.proofs.Common.{◌<◌, ◌∙◌, ap, arith, length, sym, subst, rules, FitsSigned, w64}
use Rattle.std.proofs.lemmas.Int.{to_z-of_z}
use Rattle.pl_pipeline.specs.Term.{term_at}
use Rattle.pl_pipeline.specs.Value.{number_of, empty, sort_kind}
use Rattle.pl_terms.specs.Nodes.{graph_of}
use Rattle.pl_daily.proofs.Given.{given_out, term_known}
use Rattle.pl_daily.proofs.row.kind_row.Goals as goal

pub empty_value-empty-requires : goal.empty_value-empty-requires
empty_value-empty-requires c = subst (λ g. c.args.term_day.now.term.0 < length g) (sym c.graph.ensures.value) (term_known c.args.term_day.now c.requires.term_day.0 c.requires.term_day.1)

pub window_row-requires-clause-none : goal.window_row-requires-clause-none
window_row-requires-clause-none c =
    let r : FitsSigned w64 c.empty_value-empty.result = search rules in
    to_z-of_z w64 _ r ∙ c.empty_value-empty.ensures ∙ ap (λ g. number_of (empty (sort_kind (term_at (graph_of g) c.args.term_day.now.term.0)))) c.graph.ensures.value

pub returns-in_default-clause-out : goal.returns-in_default-clause-out
returns-in_default-clause-out c =
    let r : FitsSigned w64 c.empty_value-empty.result = search rules in
    let kept = simp to_z-of_z at c.keep_values.ensures.each in
    λ v is.
    given_out c.args.term_day.now v is c.args.keep.now c.given_row.new.out c.keep_values.new.out c.empty_value-empty.result c.requires.keep
    (c.empty_value-empty.ensures ∙ ap (λ g. number_of (empty (sort_kind (term_at (graph_of g) c.args.term_day.now.term.0)))) c.graph.ensures.value)
    (c.keep_values.ensures.length ∙ c.given_row.ensures.long ∙ c.requires.long) c.given_row.ensures.given
    (λ i h. kept i (omega (arith, h, c.requires.long, c.given_row.ensures.long)))
