use Rattle.std.proofs.Common.{◌≡◌, ◌<◌, length, arith, sym, ◌∙◌, subst, All}
use Rattle.pl_daily.specs.declared.day.DayEvent.{DayEvent}
use Rattle.pl_daily.specs.Changes.{AreRings}
use Rattle.pl_daily.proofs.Advances.{bars_follow, rings_pushed}
use Rattle.pl_daily.proofs.columns.advance_rings.Goals as goal

pub take_events-requires-clause-rings : goal.take_events-requires-clause-rings
take_events-requires-clause-rings g c =
    let are = rings_pushed (length c.args.days.now) c.args.rings.now c.push_row.new.rings c.read_bars.new.row c.push_row.ensures.count c.requires.rings c.read_bars.ensures.count c.read_bars.ensures.cells c.push_row.ensures.each in
    subst (λ n. AreRings n (length c.args.days.now) c.push_row.new.rings) (sym are.count) are

pub take_events-requires-clause-within : goal.take_events-requires-clause-within
take_events-requires-clause-within g c =
    let count : length c.push_row.new.rings ≡ length c.args.row.now = c.push_row.ensures.count ∙ c.requires.rings.count in
    subst (λ n. All (λ (e : DayEvent). e.col < n) c.args.day.now.events.now) (sym count) c.requires.handed_in.events_in

pub returns-clause-follow : goal.returns-clause-follow
returns-clause-follow g c =
    bars_follow c.args.day.now.bars.now c.args.day.now.events.now c.args.fed c.args.days.now c.args.column (length c.args.days.now) c.args.rings.now c.push_row.new.rings c.take_events.new.rings c.read_bars.new.row
    c.push_row.ensures.count
    (c.take_events.ensures.rings.count ∙ c.push_row.ensures.count)
    (λ i h. c.read_bars.ensures.each i (omega (arith, h, c.requires.rings.count)))
    c.push_row.ensures.each
    (λ i h. c.take_events.ensures.each i (omega (arith, h, c.push_row.ensures.count)))

pub returns-clause-rings : goal.returns-clause-rings
returns-clause-rings g c =
    let count : length c.push_row.new.rings ≡ length c.args.row.now = c.push_row.ensures.count ∙ c.requires.rings.count in
    subst (λ n. AreRings n (length c.args.days.now) c.take_events.new.rings) count c.take_events.ensures.rings
