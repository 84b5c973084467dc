use Rattle.std.proofs.Common.{sym, subst, FitsSigned, w64}
use Rattle.std.proofs.lemmas.Int.{to_z-of_z}
use Rattle.pl_spec.specs.Rounding.{IsCell}
use Rattle.pl_values.proofs.Rows.{none-cell}
use Rattle.pl_daily.specs.TermDays.{pipeline_at}
use Rattle.pl_daily.specs.Windows.{windowed_by}
use Rattle.pl_daily.proofs.Given.{shown_out, window_given}
use Rattle.pl_daily.proofs.windows.window_row.Goals as goal

pub window_cells-requires-clause-none : goal.window_cells-requires-clause-none
window_cells-requires-clause-none c =
    let e : FitsSigned w64 c.args.empty = c.ranges.empty in
    rw (to_z-of_z w64 _ e) (subst IsCell (sym c.requires.none) (none-cell (pipeline_at c.args.term_day.now) c.args.term_day.now.term.0))

pub returns-clause-out : goal.returns-clause-out
returns-clause-out c =
    let e : FitsSigned w64 c.args.empty = c.ranges.empty in
    let shown = simp to_z-of_z at c.window_cells.ensures in
    λ v is.
    shown_out c.args.term_day.now v is c.args.keep.now c.window_cells.new.out c.args.empty (windowed_by c.args.term_day.now 0) c.requires.keep c.requires.none shown
    (λ i h. window_given c.args.term_day.now v is c.requires.kind i h)
