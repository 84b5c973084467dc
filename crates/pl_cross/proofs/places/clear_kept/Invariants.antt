use Rattle.std.proofs.Common.{◌≡◌, ◌<◌, ℕ, length, if◌then◌else◌}
use Rattle.pl_spec.specs.Cells.{is_true}
use Rattle.pl_pipeline.specs.Cross.{array_at}
use Rattle.pl_cross.proofs.places.clear_kept.Given as goal

abbrev pub invariant-loop-i : goal.invariant-loop-i
invariant-loop-i l = record {
  long : length l.out ≡ length l.fn.out;
  each : (k : ℕ) → k < l.i → array_at l.out k ≡ (if is_true (array_at l.keep k) then l.value else l.other);
}
