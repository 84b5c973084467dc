use Rattle.pl_terms.specs.Checked.{pipeline_of}
use Rattle.pl_world.specs.Worlds.{owned_world}
use Rattle.pl_cli.proofs.Stats.{present-some}
use Rattle.pl_cli.proofs.present.present_of.Goals as goal

pub present_numbers-requires-clause-within : goal.present_numbers-requires-clause-within
present_numbers-requires-clause-within c =
    let inside = c.requires.ready.plan.within in
    rw (c.world-world.ensures.sessions, c.to.ensures.value) inside

pub returns : goal.returns
returns c =
    let w = c.world-world.ensures in
    let l = c.args.loaded.now in
    let n = rw (w.sessions, w.assets, w.labels, w.bars, w.adjustments, w.numbers, c.from.ensures.value, c.to.ensures.value) at c.present_numbers.ensures in
    present-some (owned_world l.world) (pipeline_of l.checked) l.plan.from l.plan.to c.present_numbers.result c.has_numbers.result c.has_numbers.ensures c.if-not-has_numbers.false n
