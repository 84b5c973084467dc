use Rattle.std.proofs.Common.{◌≡◌, ◌∙◌, sym, ap, rules, slice_get, Some, FitsSigned, w64}
use Rattle.std.proofs.lemmas.Int.{to_z-of_z}
use Rattle.pl_pipeline.specs.Term.Input.{TermInput}
use Rattle.pl_terms.specs.Nodes.{input_of}
use Rattle.pl_daily.specs.TermDays.{node_at}
use Rattle.pl_daily.proofs.Renewed.{operand_few, term_operand}
use Rattle.pl_daily.proofs.anew.operand_back.Goals as goal

pub cell_back-requires : goal.cell_back-requires
cell_back-requires c =
    let t = c.args.term_day.now in
    let u = c.in-Some-Term.term.0 in
    let e : slice_get (node_at t).inputs c.args.place ≡ Some (TermInput u) = sym c.in-Some-Term.ensures ∙ ap (λ x. Some (input_of x)) c.in-Some-Term.field-0-is in
    record {
      held = (c.requires.held.0, (c.requires.held.2.values c.args.place u e).0);
      long = operand_few t c.requires.held.0 c.args.place u c.args.after c.requires.held.1 c.requires.held.2 e;
      asset = c.requires.asset;
    }

pub returns-in-Some-Term-clause-value : goal.returns-in-Some-Term-clause-value
returns-in-Some-Term-clause-value c =
    let t = c.args.term_day.now in
    let u = c.in-Some-Term.term.0 in
    let e : slice_get (node_at t).inputs c.args.place ≡ Some (TermInput u) = sym c.in-Some-Term.ensures ∙ ap (λ x. Some (input_of x)) c.in-Some-Term.field-0-is in
    let fits : FitsSigned w64 c.cell_back.result = search rules in
    let value = c.cell_back.ensures.value in
    λ v held.
    term_operand t v c.args.place u c.args.i c.args.after _ held e (to_z-of_z w64 _ fits ∙ value v (held.values c.args.place u e).0)
