use Rattle.std.proofs.Common.{◌<◌, ◌∙◌, rules, arith, length, length-set}
use Rattle.pl_daily.proofs.Marked.{mark_more}
use Rattle.pl_daily.proofs.events.mark_changed.Goals as goal

pub loop-event-preserved : goal.loop-event-preserved
loop-event-preserved c =
    let event = c.event-item.result in
    let within : event.col < length c.args.changed.now = search rules in
    let here : event.col < length c.loop-event.changed = omega (arith, within, c.loop-event.invariant.long) in
    record {
      long = length-set c.loop-event.changed event.col _ ∙ c.loop-event.invariant.long;
      marked = λ i h. mark_more c.args.events.now c.loop-event.event-index i event c.loop-event.changed c.loop-event-test.true c.event-item.is here (c.loop-event.invariant.marked i h);
    }
