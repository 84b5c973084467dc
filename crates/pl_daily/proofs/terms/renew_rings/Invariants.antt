use Rattle.std.proofs.Common.{◌≡◌, ℕ, ◌<◌, ◌≤◌, true, false, length, get_or}
use Rattle.pl_daily.specs.Changes.{AreRings, ring_at}
use Rattle.pl_daily.specs.Earlier.{IsRenewed}
use Rattle.pl_daily.specs.Terms.{assets_at}
use Rattle.pl_daily.proofs.terms.renew_rings.Given as goal

abbrev pub invariant-loop-i : goal.invariant-loop-i
invariant-loop-i l = record {
  rings : (size : ℕ) → AreRings (assets_at l.lent) size l.fn.rings → AreRings (assets_at l.lent) size l.rings;
  count : length l.rings ≡ length l.fn.rings;
  renewed : (k : ℕ) → k < l.i → get_or l.lent.changed.now k true ≡ true → IsRenewed l.term_day l.lent.fed k (ring_at l.fn.rings k).items (ring_at l.rings k).items;
  others : (k : ℕ) → k < l.i → get_or l.lent.changed.now k true ≡ false → ring_at l.rings k ≡ ring_at l.fn.rings k;
  rest : (k : ℕ) → l.i ≤ k → ring_at l.rings k ≡ ring_at l.fn.rings k;
  first : length l.first ≡ length l.fn.first;
  second : length l.second ≡ length l.fn.second;
  third : length l.third ≡ length l.fn.third;
}
