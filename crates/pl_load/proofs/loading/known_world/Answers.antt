use Rattle.pl_load.proofs.loading.known_world.Goals as goal

pub asof_world-requires-clause-made : goal.asof_world-requires-clause-made
asof_world-requires-clause-made c =
    let lent = c.world.ensures in
    rw (lent.sessions, lent.assets, lent.labels, lent.bars, lent.adjustments, lent.numbers) c.requires.made
