use Rattle.std.proofs.Common.{inl, arith}
use Rattle.pl_load.proofs.Ranges.{reach-is, too-soon, soon-enough}
use Rattle.pl_load.proofs.windows.judge_first.Goals as goal

pub returns-then-from-window-clause-ends : goal.returns-then-from-window-clause-ends
returns-then-from-window-clause-ends c = record { passed = tt; stopped = inl (too-soon c.args.window c.args.from _ c.if-from-window.true (reach-is c.args.window c.args.from c.if-from-window.true (omega (arith, c.ranges.window.fits)))) }

pub returns-clause-ends : goal.returns-clause-ends
returns-clause-ends c = record { passed = soon-enough c.args.window c.args.from c.if-from-window.false; stopped = tt }
