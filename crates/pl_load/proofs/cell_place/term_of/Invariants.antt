use Rattle.pl_load.proofs.CellRules.{NoneNamed}
use Rattle.pl_load.proofs.cell_place.term_of.Given as goal

abbrev pub invariant-loop-i : goal.invariant-loop-i
invariant-loop-i l = NoneNamed l.name l.checked.columns l.i
