use Rattle.std.proofs.Common.{◌≡◌, ◌<◌, ℕ, get_or, pos}
use Rattle.pl_terms.specs.Kinds.{kind_of}
use Rattle.pl_cross.specs.Arrays.{sid_in}
use Rattle.pl_values.specs.Families.{sid_flag}
use Rattle.pl_daily.specs.Rows.{sids_of}
use Rattle.pl_daily.proofs.leaves.sids_row.Given as goal

abbrev pub invariant-loop-i : goal.invariant-loop-i
invariant-loop-i l = (k : ℕ) → k < l.i → get_or l.out k (pos 0) ≡ sid_flag (kind_of l.kind) (sid_in (sids_of l.assets) k)
