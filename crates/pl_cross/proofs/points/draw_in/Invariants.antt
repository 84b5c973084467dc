use Rattle.std.proofs.Common.{◌≡◌, ◌<◌, ℕ, length, get_or}
use Rattle.std.specs.Int.{int_max, int_min}
use Rattle.pl_pipeline.specs.Cross.{array_at}
use Rattle.pl_cross.specs.declared.listing.Listed.{Listed}
use Rattle.pl_cross.proofs.points.draw_in.Given as goal

abbrev pub invariant-loop-i : goal.invariant-loop-i
invariant-loop-i l = record {
  long : length l.answers ≡ length l.group;
  answers : (k : ℕ) (d : Listed) → k < l.i → array_at l.answers k ≡ int_max l.least (int_min l.greatest (get_or l.group k d).value);
}
