use Rattle.pl_bars.proofs.reading.sorted.Goals as goal

pub sort_by_place-requires : goal.sort_by_place-requires
sort_by_place-requires c = rw c.deref_mut.ensures.value c.requires
