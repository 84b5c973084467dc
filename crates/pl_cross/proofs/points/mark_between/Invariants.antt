use Rattle.std.proofs.Common.{◌≡◌, ◌<◌, ℕ, length, get_or, pos, ◌*ℤ◌, ◌&&◌}
use Rattle.std.specs.Int.RustNames.{int_le}
use Rattle.pl_spec.specs.Cells.{truth}
use Rattle.pl_pipeline.specs.Cross.{array_at}
use Rattle.pl_cross.specs.declared.listing.Listed.{Listed}
use Rattle.pl_cross.proofs.points.mark_between.Given as goal

abbrev pub invariant-loop-i : goal.invariant-loop-i
invariant-loop-i l = record {
  long : length l.answers ≡ length l.group;
  answers : (k : ℕ) (d : Listed) → k < l.i
      → array_at l.answers k ≡ truth (int_le l.low ((get_or l.group k d).value *ℤ pos 10000) && int_le ((get_or l.group k d).value *ℤ pos 10000) l.high);
}
