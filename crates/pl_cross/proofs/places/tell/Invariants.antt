use Rattle.std.proofs.Common.{◌≡◌, ◌≢◌, ◌<◌, ℕ, length, get_or}
use Rattle.pl_pipeline.specs.Cross.{array_at}
use Rattle.pl_cross.specs.declared.listing.Member.{Member}
use Rattle.pl_cross.proofs.places.tell.Given as goal

abbrev pub invariant-loop-member : goal.invariant-loop-member
invariant-loop-member l = record {
  long : length l.out ≡ length l.fn.out;
  told : (k : ℕ) (d : Member) → k < l.member-index → array_at l.out (get_or l.members k d).place ≡ l.value;
  others : (i : ℕ) → ((k : ℕ) (d : Member) → k < l.member-index → (get_or l.members k d).place ≢ i) → array_at l.out i ≡ array_at l.fn.out i;
}
