use Rattle.std.proofs.Common.{ap, length, arith}
use Rattle.std.proofs.lemmas.List.FromFn.{length-range_with_len}
use Rattle.pl_windows.proofs.Traversed.{window-is}
use Rattle.pl_windows.proofs.session.window_of.Goals as goal

pub window-requires-clause-asset : goal.window-requires-clause-asset
window-requires-clause-asset c =
    omega (arith, ap length c.requires.windows.buffer.cols, length-range_with_len 0 (length c.args.asked.now.world.assets.now), c.requires.col)

pub returns-clause-value : goal.returns-clause-value
returns-clause-value c =
    window-is c.args.asked.now c.requires.asked c.args.place.session c.args.windows.now c.requires.windows c.args.place.col c.requires.col c.window.result.now c.window.ensures.world
