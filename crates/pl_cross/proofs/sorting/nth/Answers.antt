use Rattle.std.proofs.Common.{subst, IsPermutation, ◌++◌, ◌∷◌}
use Rattle.pl_cross.proofs.Selecting.{nth-is}
use Rattle.pl_cross.proofs.sorting.nth.Goals as goal

pub returns : goal.returns
returns c =
    let front = c.select_nth_unstable-asset.result.0.now in
    let asset = c.select_nth_unstable-asset.result.1.now in
    let back = c.select_nth_unstable-asset.result.2.now in
    nth-is c.args.group.now front back asset c.args.place (subst (λ l. IsPermutation l (front ++ asset ∷ back)) c.copy_from_slice.ensures.after c.select_nth_unstable-asset.ensures.permutation)
    c.select_nth_unstable-asset.ensures.front_len c.select_nth_unstable-asset.ensures.partitioned c.requires.own
