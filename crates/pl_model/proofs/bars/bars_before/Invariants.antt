use Rattle.std.proofs.Common.{◌≡◌, ◌+◌, ◌-◌, ◌≤◌, All}
use Rattle.pl_spec.specs.Rounding.{IsCell}
use Rattle.pl_spec.specs.Parts.{sid_at}
use Rattle.pl_world.specs.Worlds.{world_of}
use Rattle.pl_model.proofs.Runs.{run, run_steps}
use Rattle.pl_model.proofs.bars.bars_before.Given as goal

-- the cells of the sessions that have been passed
abbrev pub invariant-loop-bar_session : goal.invariant-loop-bar_session
invariant-loop-bar_session g l =
    let w = world_of l.world in
    let a = sid_at l.world.assets.now l.col in
    let first = l.span.session - l.span.size in
    record {
      from : first ≤ l.bar_session;
      to : l.bar_session ≤ l.span.session;
      cells : l.cells.items ≡ run w a l.column l.span.session l.span.view first (l.bar_session - first);
      all : All IsCell l.cells.items;
      cost : l.steps ≡ l.fn.steps + run_steps w a l.column l.span.session l.span.view first (l.bar_session - first);
    }
