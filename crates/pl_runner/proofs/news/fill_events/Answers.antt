use Rattle.std.proofs.Common.{◌+◌, ◌++◌, ◌∙◌, ap, map, sym, arith, List}
use Rattle.pl_adjust.specs.Events.{event_of}
use Rattle.pl_spec.specs.Parts.{ColumnAdjustment}
use Rattle.pl_spec.specs.World.{Event}
use Rattle.pl_runner.specs.Days.{events_due, in_col}
use Rattle.pl_runner.proofs.Puts.{due-more, due-few, due-longer}
use Rattle.pl_runner.proofs.news.fill_events.Goals as goal

pub put_events-requires : goal.put_events-requires
put_events-requires c =
    let w = c.args.world.now in
    omega (arith, due-longer w.sessions.now w.adjustments.now c.args.session c.loop-col.col c.due.result.now c.due.ensures, due-few w.sessions.now w.adjustments.now c.args.session (c.loop-col.col + 1), c.loop-col.invariant.count, c.loop-col.invariant.room)

pub loop-col-preserved : goal.loop-col-preserved
loop-col-preserved c =
    let w = c.args.world.now in
    record {
      events = c.put_events.ensures.events
          ∙ ap (λ (l : List ColumnAdjustment). l ++ map (in_col c.loop-col.col) (map event_of c.due.result.now)) c.loop-col.invariant.events
          ∙ ap (λ (es : List Event). events_due w.sessions.now w.adjustments.now c.loop-col.col c.args.session ++ map (in_col c.loop-col.col) es) c.due.ensures
          ∙ sym (due-more w.sessions.now w.adjustments.now c.args.session c.loop-col.col);
      count = omega (arith, c.put_events.ensures.count, due-longer w.sessions.now w.adjustments.now c.args.session c.loop-col.col c.due.result.now c.due.ensures, c.loop-col.invariant.count);
      room = omega (arith, c.put_events.ensures.room, c.loop-col.invariant.room);
    }
