use Rattle.std.proofs.Common.{◌∙◌, inl, inr, refl}
use Rattle.pl_cli.proofs.Written.{writes-ok}
use Rattle.pl_cli.proofs.Stats.{stats-are}
use Rattle.pl_cli.proofs.commands.write_loaded.Goals as goal

pub returns-in-Ok-clause-writes : goal.returns-in-Ok-clause-writes
returns-in-Ok-clause-writes g c =
    let either = rw (c.world-world.ensures.sessions, c.world-world.ensures.assets, c.world-world.ensures.labels, c.world-world.ensures.bars, c.world-world.ensures.adjustments, c.world-world.ensures.numbers) at c.in-Ok.ensures.writes in
    elim either [
      | inl m ↦ absurd (cc)
      | inr w ↦ inr (writes-ok w)
    ]

pub returns-in-Ok-clause-stats : goal.returns-in-Ok-clause-stats
returns-in-Ok-clause-stats g c =
    let report = rw (c.world-world.ensures.sessions, c.world-world.ensures.assets, c.world-world.ensures.labels, c.world-world.ensures.bars, c.world-world.ensures.adjustments, c.world-world.ensures.numbers) at c.in-Ok.ensures.report in
    c.stats_of.ensures ∙ stats-are c.args.options.now.stats _ _ _ _ _ _ _ report c.requires.ready.plan refl
