use Rattle.std.proofs.Common.{inl, inr}
use Rattle.pl_cli.proofs.Written.{writes-ok}
use Rattle.pl_cli.proofs.daily.write_days.Goals as goal

pub returns-in-Ok-clause-writes : goal.returns-in-Ok-clause-writes
returns-in-Ok-clause-writes g c =
    let either = rw (c.world-world.ensures.sessions, c.world-world.ensures.assets, c.world-world.ensures.labels, c.world-world.ensures.bars, c.world-world.ensures.adjustments, c.world-world.ensures.numbers) at c.in-Ok.ensures.writes in
    elim either [
      | inl m ↦ absurd (cc)
      | inr w ↦ inr (writes-ok w)
    ]

pub returns-in-Ok-clause-cost : goal.returns-in-Ok-clause-cost
returns-in-Ok-clause-cost g c =
    rw (c.world-world.ensures.sessions, c.world-world.ensures.assets, c.world-world.ensures.labels, c.world-world.ensures.bars, c.world-world.ensures.adjustments, c.world-world.ensures.numbers) at c.in-Ok.ensures.cost

pub returns-in-Ok-clause-most : goal.returns-in-Ok-clause-most
returns-in-Ok-clause-most g c =
    rw (c.world-world.ensures.sessions, c.world-world.ensures.assets, c.world-world.ensures.labels, c.world-world.ensures.bars, c.world-world.ensures.adjustments, c.world-world.ensures.numbers) at c.in-Ok.ensures.at_most
