use Rattle.std.proofs.Common.{◌∙◌, ap, map, arith}
use Rattle.pl_runner.specs.Days.{in_col}
use Rattle.pl_adjust.specs.Events.{event_of}
use Rattle.pl_adjust.specs.declared.adjust.Adjust.{Adjust}
use Rattle.pl_daily.specs.declared.day.DayEvent.{DayEvent}
use Rattle.pl_daily.specs.Changes.{column_event}
use Rattle.pl_runner.proofs.Puts.{event-more}
use Rattle.pl_runner.proofs.news.put_events.Goals as goal

pub loop-adjust-preserved : goal.loop-adjust-preserved
loop-adjust-preserved c =
    let items = rw c.unwrap.ensures at c.push.ensures.items in
    let long = rw c.unwrap.ensures at c.push.ensures.len in
    let x : DayEvent = record { col = c.args.col; adjust = c.adjust-item.result } in
    record {
      events = ap (map column_event) items
          ∙ event-more c.args.col c.args.events.now.items c.loop-adjust.events.items c.args.adjusts.now c.loop-adjust.adjust-index c.adjust-item.result x c.loop-adjust-test.true
          (ap (λ (a : Adjust). in_col c.args.col (event_of a)) c.adjust-item.is) c.loop-adjust.invariant.events;
      count = omega (arith, long, c.loop-adjust.invariant.count);
      room = omega (arith, c.push.ensures.capacity, c.loop-adjust.invariant.room);
    }
