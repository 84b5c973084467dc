use Rattle.std.proofs.Common.{arith, Some, None}
use Rattle.pl_syntax.proofs.Pushed.{open_pop, depth_after}
use Rattle.pl_syntax.proofs.stack.Stack.pop.Goals as goal

pub overflow_sub-self : goal.overflow_sub-self
overflow_sub-self c = omega (arith, depth_after c.pop.new.self.items c.args.self.now.frames.items c.in-Some.frame c.in-Some.ensures.items, c.args.self.now.counted, c.counts.ensures)

pub invariant_of-self : goal.invariant_of-self
invariant_of-self c = record { counted = omega (arith, depth_after c.pop.new.self.items c.args.self.now.frames.items c.in-Some.frame c.in-Some.ensures.items, c.args.self.now.counted, c.counts.ensures) }

pub returns-in-Some : goal.returns-in-Some
returns-in-Some c = open_pop c.args.self.now _ (Some c.in-Some.frame) c.in-Some.ensures.items c.in-Some.ensures.cases

pub returns-in-None : goal.returns-in-None
returns-in-None c = open_pop c.args.self.now _ None c.in-None.ensures.items c.in-None.ensures.cases
