use Rattle.std.proofs.Common.{◌∙◌, refl, sym}
use Rattle.pl_bars.specs.Bars.{cell_in}
use Rattle.pl_bars.proofs.fields.read_cell.Goals as goal

pub returns-then-is_empty : goal.returns-then-is_empty
unfolding cell_in
returns-then-is_empty c = rw (sym c.is_empty.ensures ∙ c.if-is_empty.true) refl
