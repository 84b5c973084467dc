use Rattle.std.proofs.Common.{◌≡◌, ◌≤◌, ◌-◌, pos, length, drop}
use Rattle.pl_pipeline.specs.Formula.{FINE, faded, weights}
use Rattle.pl_factors.proofs.Totals.{IsTermSum}
use Rattle.pl_factors.proofs.faded.faded_weights.Given as goal

abbrev pub invariant-loop-back : goal.invariant-loop-back
invariant-loop-back l = record {
  weight : pos l.next ≡ faded l.one l.decay l.back;
  small : l.next ≤ FINE;
  sum : IsTermSum (faded l.one l.decay) FINE l.back l.sum;
  long : length l.weights ≡ l.count;
  within : l.back ≤ l.count;
  written : drop (l.count - l.back) l.weights ≡ weights l.one l.decay l.back;
}
