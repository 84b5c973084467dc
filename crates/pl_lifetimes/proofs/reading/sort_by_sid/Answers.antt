use Rattle.std.proofs.Common.{rules}
use Rattle.std.proofs.lemmas.List.Sorted.{IsNonDecreasingBy-from_sort_by_key}
use Rattle.pl_records.proofs.Sorts.{sorted-is}
use Rattle.pl_lifetimes.specs.Assets.{sid_of}
use Rattle.pl_lifetimes.proofs.reading.sort_by_sid.Goals as goal

pub returns : goal.returns
returns c =
    sorted-is sid_of c.args.rows.now c.sort_unstable_by_key.new.self c.requires c.sort_unstable_by_key.ensures.permutation
    (IsNonDecreasingBy-from_sort_by_key sid_of _ c.sort_unstable_by_key.ensures.sorted (λ a r q k. search rules))
