use Rattle.std.proofs.Common.{◌≡◌, ◌∙◌, sym, Some, None, ap, option_map}
use Rattle.pl_pipeline.specs.Term.Input.{BarColumn, TermInput}
use Rattle.pl_terms.specs.declared.node.Input.TheVariants as input
use Rattle.pl_terms.specs.Nodes.{input_of}
use Rattle.pl_exec.proofs.Givens.{start_input}
use Rattle.pl_exec.proofs.kinds.downsampled_input.Goals as goal

pub unreachable-requires : goal.unreachable-requires
unreachable-requires c =
    let u = start_input c.args.term_session.now c.requires.term_session c.requires.kind in
    let column : c.in-Some-Column.field-0 ≡ input.Column c.in-Some-Column.field-0-0 = c.in-Some-Column.field-0-is in
    let no : Some (BarColumn c.in-Some-Column.field-0-0) ≡ Some (TermInput u.0) = ap (λ x. Some (input_of x)) (sym column) ∙ ap (option_map input_of) (sym c.in-Some-Column.is) ∙ c.input_at.ensures ∙ u.1 in
    absurd (cc)

pub unreachable-requires-in-None : goal.unreachable-requires-in-None
unreachable-requires-in-None c =
    let u = start_input c.args.term_session.now c.requires.term_session c.requires.kind in
    let no : None ≡ Some (TermInput u.0) = ap (option_map input_of) (sym c.in-None.is) ∙ c.input_at.ensures ∙ u.1 in
    absurd (cc)
