use Rattle.std.proofs.Common.{rules, arith, sym, ◌∙◌}
use Rattle.pl_daily.proofs.Beginning.{by_column, none_fed, rings_are, rings_begin}
use Rattle.pl_daily.proofs.ring_starts.begin_rings.Goals as goal

pub returns-clause-rings : goal.returns-clause-rings
returns-clause-rings c = record {
  calendar = c.in_ok-calendar_of.ensures.full ∙ sym c.in_ok-calendar_of.ensures.room;
  rings = by_column _
      (rings_are c.args.assets c.args.capacities.open_price c.in_ok-rings_of.field-0 c.in_ok-rings_of.ensures.capacity c.in_ok-rings_of.ensures.rings)
      (rings_are c.args.assets c.args.capacities.high c.in_ok-rings_of-2.field-0 c.in_ok-rings_of-2.ensures.capacity c.in_ok-rings_of-2.ensures.rings)
      (rings_are c.args.assets c.args.capacities.low c.in_ok-rings_of-3.field-0 c.in_ok-rings_of-3.ensures.capacity c.in_ok-rings_of-3.ensures.rings)
      (rings_are c.args.assets c.args.capacities.close c.in_ok-rings_of-4.field-0 c.in_ok-rings_of-4.ensures.capacity c.in_ok-rings_of-4.ensures.rings)
      (rings_are c.args.assets c.args.capacities.volume c.in_ok-rings_of-5.field-0 c.in_ok-rings_of-5.ensures.capacity c.in_ok-rings_of-5.ensures.rings);
  fits = by_column _
      (omega (arith, c.in_ok-calendar_of.ensures.room, c.in_ok-rings_of.ensures.capacity, c.max.ensures, c.max-most.ensures, c.max-2.ensures, c.max-depth.ensures))
      (omega (arith, c.in_ok-calendar_of.ensures.room, c.in_ok-rings_of-2.ensures.capacity, c.max.ensures, c.max-most.ensures, c.max-2.ensures, c.max-depth.ensures))
      (omega (arith, c.in_ok-calendar_of.ensures.room, c.in_ok-rings_of-3.ensures.capacity, c.max.ensures, c.max-most.ensures, c.max-2.ensures, c.max-depth.ensures))
      (omega (arith, c.in_ok-calendar_of.ensures.room, c.in_ok-rings_of-4.ensures.capacity, c.max.ensures, c.max-most.ensures, c.max-2.ensures, c.max-depth.ensures))
      (omega (arith, c.in_ok-calendar_of.ensures.room, c.in_ok-rings_of-5.ensures.capacity, c.max.ensures, c.max-most.ensures, c.max-2.ensures, c.max-depth.ensures));
  row = search rules;
}

pub returns-clause-room : goal.returns-clause-room
returns-clause-room c = record {
  rings = by_column _ c.in_ok-rings_of.ensures.capacity c.in_ok-rings_of-2.ensures.capacity c.in_ok-rings_of-3.ensures.capacity c.in_ok-rings_of-4.ensures.capacity c.in_ok-rings_of-5.ensures.capacity;
  calendar = omega (arith, c.in_ok-calendar_of.ensures.room, c.max.ensures, c.max-most.ensures, c.max-2.ensures, c.max-depth.ensures);
}

pub returns-clause-begins : goal.returns-clause-begins
returns-clause-begins c = λ g long. record {
  calendar = none_fed c.in_ok-calendar_of.field-0.items c.in_ok-calendar_of.field-0.capacity (c.in_ok-calendar_of.ensures.full ∙ sym c.in_ok-calendar_of.ensures.room);
  bars = by_column _
      (rings_begin g _ c.args.assets c.args.capacities.open_price c.in_ok-rings_of.field-0 c.in_ok-rings_of.ensures.capacity c.in_ok-rings_of.ensures.begins long)
      (rings_begin g _ c.args.assets c.args.capacities.high c.in_ok-rings_of-2.field-0 c.in_ok-rings_of-2.ensures.capacity c.in_ok-rings_of-2.ensures.begins long)
      (rings_begin g _ c.args.assets c.args.capacities.low c.in_ok-rings_of-3.field-0 c.in_ok-rings_of-3.ensures.capacity c.in_ok-rings_of-3.ensures.begins long)
      (rings_begin g _ c.args.assets c.args.capacities.close c.in_ok-rings_of-4.field-0 c.in_ok-rings_of-4.ensures.capacity c.in_ok-rings_of-4.ensures.begins long)
      (rings_begin g _ c.args.assets c.args.capacities.volume c.in_ok-rings_of-5.field-0 c.in_ok-rings_of-5.ensures.capacity c.in_ok-rings_of-5.ensures.begins long);
}
