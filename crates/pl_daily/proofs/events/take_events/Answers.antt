use Rattle.std.proofs.Common.{◌≡◌, ◌<◌, min, length, [], ◌∷◌, rules, arith, refl, sym, ◌∙◌, ap, get_or}
use Rattle.std.proofs.lemmas.List.{get_or_default}
use Rattle.circular_buffer.specs.Buffer.{buffer}
use Rattle.pl_adjust.specs.Events.{event_of}
use Rattle.pl_daily.specs.Rings.{known_days}
use Rattle.pl_daily.specs.Changes.{changed, ring_at}
use Rattle.pl_daily.proofs.Cells.{changed_nothing, count_more, ring_set, rings_set, length-known, cost_more}
use Rattle.pl_daily.proofs.events.take_events.Goals as goal

pub loop-event-init : goal.loop-event-init
loop-event-init g c = record {
  rings = c.requires.rings;
  each = λ i h. sym (changed_nothing c.args.column (known_days c.args.fed c.args.days.now) _ (length-known c.args.fed c.args.days.now ∙ sym (c.requires.rings.each i h).full));
  cost = omega arith;
}

pub take_event-requires-clause-ring : goal.take_event-requires-clause-ring
take_event-requires-clause-ring g c =
    let event = c.event-item.result in
    let blank = c.index-rings-event.result in
    let within : event.col < length c.args.rings.now = search rules in
    let here : event.col < length c.loop-event.rings = omega (arith, within, c.loop-event.invariant.rings.count) in
    let same : get_or c.loop-event.rings event.col blank ≡ ring_at c.loop-event.rings event.col = get_or_default c.loop-event.rings event.col blank (buffer [] 0) here in
    rw same (c.loop-event.invariant.rings.each event.col within)

pub loop-event-preserved : goal.loop-event-preserved
loop-event-preserved g c =
    let event = c.event-item.result in
    let blank = c.index-rings-event.result in
    let k = c.loop-event.event-index in
    let days = known_days c.args.fed c.args.days.now in
    let within : event.col < length c.args.rings.now = search rules in
    let here : event.col < length c.loop-event.rings = omega (arith, within, c.loop-event.invariant.rings.count) in
    let same : get_or c.loop-event.rings event.col blank ≡ ring_at c.loop-event.rings event.col = get_or_default c.loop-event.rings event.col blank (buffer [] 0) here in
    let value = c.take_event.ensures.value ∙ ap (changed c.args.column (event_of event.adjust ∷ []) days) same in
    record {
      rings = rings_set (length c.args.rings.now) (length c.args.days.now) event.col c.loop-event.rings c.take_event.new.ring c.loop-event.invariant.rings c.take_event.ensures.ring within;
      each = λ i h. ring_set c.args.column c.args.events.now days k event i c.args.rings.now c.loop-event.rings c.take_event.new.ring c.loop-event-test.true c.event-item.is here value (c.loop-event.invariant.each i h);
      cost = cost_more c.args.steps.now c.loop-event.steps c.take_event.new.steps _ _ _ (min (length c.args.days.now) c.args.fed) _ c.take_event.ensures.cost c.loop-event.invariant.cost
          (count_more c.args.column c.args.events.now k event c.loop-event-test.true c.event-item.is) refl;
    }
