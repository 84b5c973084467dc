use Rattle.std.proofs.Common.{rules, ◌∙◌, sym, [], get_or, pos, FitsSigned, w64}
use Rattle.pl_spec.specs.declared.BarRow.{BarRow}
use Rattle.pl_bars.proofs.BarSearch.{five_cells, none_of_five}
use Rattle.pl_bars.proofs.onward.cells_onward.Goals as goal

abbrev blank : BarRow
blank = record { col = 0; session = 0; cells = [] }

pub returns-in-Some : goal.returns-in-Some
returns-in-Some c =
    let row = get_or c.args.rows.now c.in-Some.i blank in
    let a0 : FitsSigned w64 (get_or row.cells 0 (pos 0)) = search rules in
    let a1 : FitsSigned w64 (get_or row.cells 1 (pos 0)) = search rules in
    let a2 : FitsSigned w64 (get_or row.cells 2 (pos 0)) = search rules in
    let a3 : FitsSigned w64 (get_or row.cells 3 (pos 0)) = search rules in
    let a4 : FitsSigned w64 (get_or row.cells 4 (pos 0)) = search rules in
    five_cells c.args.rows.now c.args.col c.args.session c.in-Some.i blank (sym (sym c.row_onward.ensures ∙ c.in-Some.is)) a0 a1 a2 a3 a4

pub returns-in-None : goal.returns-in-None
returns-in-None c = none_of_five c.args.rows.now c.args.col c.args.session (sym (sym c.row_onward.ensures ∙ c.in-None.is))
