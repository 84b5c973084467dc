use Rattle.std.proofs.Common.{arith}
use Rattle.pl_table.proofs.tile.fill_at_first.Goals as goal

pub fill-requires-clause-first : goal.fill-requires-clause-first
fill-requires-clause-first c = record { from = omega (arith, c.requires.session.from); to = omega (arith, c.requires.session.to) }

pub returns-then-first-session-clause-rows : goal.returns-then-first-session-clause-rows
returns-then-first-session-clause-rows c = c.fill.ensures.rows

pub returns-else-first-session-clause-rows : goal.returns-else-first-session-clause-rows
returns-else-first-session-clause-rows c = c.requires.filled (omega (arith, c.if-first-session.false))
