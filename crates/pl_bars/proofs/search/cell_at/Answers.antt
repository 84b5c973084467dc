use Rattle.std.proofs.Common.{rules, ◌∙◌, sym, ap, pos, get_or, FitsSigned, w64, []}
use Rattle.std.proofs.lemmas.Int.{to_z-of_z}
use Rattle.pl_spec.specs.declared.BarRow.{BarRow}
use Rattle.pl_bars.proofs.BarSearch.{cell_found, cell_none, cell_at-IsCell}
use Rattle.pl_bars.proofs.search.cell_at.Goals as goal

abbrev blank : BarRow
blank = record { col = 0; session = 0; cells = [] }

pub returns-in-Some : goal.returns-in-Some
returns-in-Some c =
    let row = get_or c.args.rows.now c.in-Some.i blank in
    let fits : FitsSigned w64 (get_or row.cells c.place_of.result (pos 0)) = search rules in
    let value = to_z-of_z w64 _ fits ∙ ap (λ k. get_or row.cells k (pos 0)) c.place_of.ensures.value
    ∙ cell_found c.args.rows.now c.args.col c.args.session c.args.column c.in-Some.i blank (sym (sym c.row_onward.ensures ∙ c.in-Some.is)) in
    record { value = value; cell = rw value (cell_at-IsCell c.args.rows.now c.args.col c.args.column c.args.session c.requires) }

pub returns-in-None-clause-value : goal.returns-in-None-clause-value
returns-in-None-clause-value c = cell_none c.args.rows.now c.args.col c.args.session c.args.column (sym (sym c.row_onward.ensures ∙ c.in-None.is))
