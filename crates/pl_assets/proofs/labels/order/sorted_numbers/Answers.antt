use Rattle.pl_assets.proofs.LabelOrder.{own_numbers}
use Rattle.pl_assets.proofs.labels.order.sorted_numbers.Goals as goal

pub sort_by_key-requires : goal.sort_by_key-requires
sort_by_key-requires c = rw (c.deref_mut.ensures.value, c.in_ok-order.ensures) (own_numbers c.args.places.now c.requires.own)
