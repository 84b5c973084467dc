use Rattle.std.proofs.Common.{◌≡◌, ◌≤◌, length, take}
use Rattle.pl_cross.specs.Listing.{labels_in, enrolled}
use Rattle.pl_cross.proofs.listing.enroll.Given as goal

abbrev pub invariant-loop-place : goal.invariant-loop-place
invariant-loop-place l = record {
  long : length l.members ≡ length l.fn.members;
  few : l.count ≤ l.place;
  enrolled : take l.count l.members ≡ enrolled l.session.keep.now (labels_in l.session.groups) l.place;
}
