use Rattle.std.proofs.Common.{◌≡◌, ◌-◌, arith, length, length-drop, take_all, rules, ◌∙◌, ap, take, drop, w32, FitsSigned}
use Rattle.std.specs.Int.RustNames.{int_le}
use Rattle.std.proofs.lemmas.Int.{to_z-of_z}
use Rattle.std.proofs.lemmas.List.Sorted.{IsPartitionPoint-from_clause}
use Rattle.pl_adjust.proofs.Between.{parted, between-front, front_length, front_within}
use Rattle.pl_adjust.specs.declared.adjust.Adjust.{Adjust}
use Rattle.pl_adjust.proofs.seen.between.Goals as goal

pub returns : goal.returns
returns c =
    let high : FitsSigned w32 c.args.high = c.ranges.high in
    let low : FitsSigned w32 c.args.low = c.ranges.low in
    let list = c.args.list.now in
    let from = c.partition_point-from.result in
    let rest : take (length list - from) (drop from list) ≡ drop from list = take_all (length list - from) (drop from list) (omega (arith, length-drop from list)) in
    let count = rw (rest, front_length (λ (a : Adjust). int_le a.day c.args.high) (drop from list)) at (simp to_z-of_z at c.count_by.ensures) in
    ap (take c.count_by.result) rest
    ∙ ap (λ n. take n (drop from list)) count
    ∙ between-front c.args.low c.args.high list from c.requires
    (IsPartitionPoint-from_clause (λ a. int_le a.day c.args.low) _ _ c.partition_point-from.ensures.partitioned (parted c.args.low list c.requires) (λ a r q k. search rules))
    c.partition_point-from.ensures.bound

pub slice_bounds-result-end : goal.slice_bounds-result-end
slice_bounds-result-end c = front_within _ _ c.count_by.result c.count_by.ensures
