use Rattle.std.proofs.Common.{◌<◌, ℕ, pos, get_or}
use Rattle.pl_pointwise.proofs.each.at_each_pair.Given as goal

abbrev pub invariant-loop-at : goal.invariant-loop-at
invariant-loop-at g l = (k : ℕ) → k < l.at → goal.F-post g l.f (get_or l.a k (pos 0)) (get_or l.b k (pos 0)) (get_or l.out k (pos 0))
