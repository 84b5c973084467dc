use Rattle.std.proofs.Common.{◌≡◌, length, map, take}
use Rattle.pl_terms.specs.Checked.{columns_of}
use Rattle.pl_planner.specs.Uses.{all_marked}
use Rattle.pl_planner.proofs.uses.mark_columns.Given as goal

abbrev pub invariant-loop-i : goal.invariant-loop-i
invariant-loop-i l = record {
  marked : l.uses ≡ all_marked l.fn.uses l.terms (map (λ c. c.term) (columns_of (take l.i l.checked.columns)));
  size : length l.uses ≡ length l.fn.uses;
}
