use Rattle.std.proofs.Common.{inl, inr}
use Rattle.pl_cli.proofs.Written.{writes-ok}
use Rattle.pl_cli.proofs.windows.write_loaded.Goals as goal

pub returns-in-Ok-clause-writes : goal.returns-in-Ok-clause-writes
returns-in-Ok-clause-writes g c =
    let w = c.world-world.ensures in
    let either = rw (w.sessions, w.assets, w.labels, w.bars, w.adjustments, w.numbers) at c.in-Ok.ensures.writes in
    elim either [
      | inl m ↦ absurd (cc)
      | inr w ↦ inr (writes-ok w)
    ]
