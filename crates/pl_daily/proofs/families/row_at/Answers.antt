use Rattle.std.proofs.Common.{◌≡◌, Some, slice_get, ap, sym, ◌∙◌}
use Rattle.std.proofs.lemmas.Option.{slice_get-get_or}
use Rattle.pl_pipeline.specs.Term.Input.{TermInput}
use Rattle.pl_terms.specs.Nodes.{input_of}
use Rattle.pl_daily.specs.Rows.{input_row, row_of}
use Rattle.pl_daily.specs.TermDays.{node_at}
use Rattle.pl_daily.proofs.families.row_at.Goals as goal

pub bounds-term_day-term : goal.bounds-term_day-term
bounds-term_day-term c =
    let e : slice_get (node_at c.args.term_day.now).inputs c.args.place ≡ Some (TermInput c.in-Some-Term.term.0) = sym c.in-Some-Term.ensures ∙ ap (λ x. Some (input_of x)) c.in-Some-Term.field-0-is in
    (c.requires.term_day.1.rows c.args.place c.in-Some-Term.term.0 e).known

pub returns-in-Some-Term : goal.returns-in-Some-Term
returns-in-Some-Term c =
    let e : slice_get (node_at c.args.term_day.now).inputs c.args.place ≡ Some (TermInput c.in-Some-Term.term.0) = sym c.in-Some-Term.ensures ∙ ap (λ x. Some (input_of x)) c.in-Some-Term.field-0-is in
    let known = (c.requires.term_day.1.rows c.args.place c.in-Some-Term.term.0 e).known in
    c.deref.ensures.value
    ∙ sym (ap (input_row c.args.term_day.now.terms.now) e ∙ ap row_of (slice_get-get_or c.args.term_day.now.terms.now c.in-Some-Term.term.0 c.index-term_day-term.result known))
