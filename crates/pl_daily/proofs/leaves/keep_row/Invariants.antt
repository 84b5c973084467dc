use Rattle.std.proofs.Common.{◌≡◌, ℕ, ◌<◌, pos, length, get_or}
use Rattle.pl_spec.specs.Cells.{is_true}
use Rattle.pl_cross.specs.Listing.{labels_in}
use Rattle.pl_daily.specs.Rows.{is_kept_by}
use Rattle.pl_daily.proofs.leaves.keep_row.Given as goal

abbrev pub invariant-loop-i : goal.invariant-loop-i
invariant-loop-i l = record {
  long : length l.keep ≡ length l.fn.keep;
  each : (i : ℕ) → i < l.i → is_true (get_or l.keep i (pos 0)) ≡ is_kept_by l.assets l.fn.day (labels_in l.mask) i;
}
