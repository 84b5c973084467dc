use Rattle.pl_adjarray.proofs.ColumnWorlds.{column_world-is}
use Rattle.pl_adjarray.proofs.array.AdjustedArray.new.Goals as goal

pub invariant_of-result : goal.invariant_of-result
invariant_of-result c = record {
  range = c.requires.range;
  days = c.len-ascending.ensures.days;
  world = column_world-is c.args.sessions.now c.args.bars.now c.args.adjustments.now c.len-ascending.ensures.days.ascend c.len-by_day.ensures.in_order;
}
