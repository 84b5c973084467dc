use Rattle.std.proofs.Common.{sym, ◌∙◌}
use Rattle.std.proofs.lemmas.List.Sums.{AllPass-from_list_all, list_all-from_AllPass}
use Rattle.pl_bars.specs.Bars.{is_bar_cell}
use Rattle.pl_packed.proofs.order.is_bar.Goals as goal

pub returns : goal.returns
returns c = (
  λ t. record {
    col = c.if-bar-cols.false;
    session = c.if-bar-sessions.false;
    cells = AllPass-from_list_all is_bar_cell c.args.bar.now.cells (sym c.are_cells.ensures ∙ t);
    five = c.requires;
  },
  λ h. c.are_cells.ensures ∙ list_all-from_AllPass is_bar_cell c.args.bar.now.cells h.cells,
)
