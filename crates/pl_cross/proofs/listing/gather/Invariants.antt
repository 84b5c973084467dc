use Rattle.std.proofs.Common.{◌≡◌, ◌≤◌, length, take}
use Rattle.pl_cross.specs.Listing.{gathered}
use Rattle.pl_cross.proofs.listing.gather.Given as goal

abbrev pub invariant-loop-member : goal.invariant-loop-member
invariant-loop-member l = record {
  long : length l.listed ≡ length l.fn.listed;
  few : l.count ≤ l.member-index;
  listed : take l.count l.listed ≡ gathered l.order l.values (take l.member-index l.members);
}
