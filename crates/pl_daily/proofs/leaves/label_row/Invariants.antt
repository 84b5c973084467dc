use Rattle.std.proofs.Common.{◌≡◌, ◌<◌, ℕ, get_or, pos}
use Rattle.pl_spec.specs.Rounding.{IsCell}
use Rattle.pl_assets.specs.Labels.{label_on}
use Rattle.pl_values.specs.Families.{label_code}
use Rattle.pl_daily.proofs.leaves.label_row.Given as goal

abbrev pub invariant-loop-i : goal.invariant-loop-i
invariant-loop-i l = record {
  each : (k : ℕ) → k < l.i → get_or l.out k (pos 0) ≡ label_code l.labels.texts (label_on l.labels.rows l.name k l.fn.day);
  cells : (k : ℕ) → k < l.i → IsCell (get_or l.out k (pos 0));
}
