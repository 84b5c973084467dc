use Rattle.pl_values.proofs.Viewed.{kept-cell, own-cell, unkept-seen, seen-window-cell, seen-point-cell}
use Rattle.pl_values.proofs.laws.cells_are_seen.Goals as goal

pub returns : goal.returns
returns c = record { own = own-cell; unkept = unkept-seen; kept = kept-cell; windows = seen-window-cell; points = seen-point-cell }
