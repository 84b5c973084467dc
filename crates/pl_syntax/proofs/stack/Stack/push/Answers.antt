use Rattle.std.proofs.Common.{arith}
use Rattle.pl_syntax.proofs.Pushed.{open_push, depth_most, depth_after}
use Rattle.pl_syntax.proofs.stack.Stack.push.Goals as goal

pub overflow_add-self : goal.overflow_add-self
overflow_add-self c = let v = c.push.new.self in omega (arith, depth_after c.args.self.now.frames.items v.items c.args.frame c.in_ok-push.ensures.items, depth_most v.items, c.args.self.now.counted, c.counts-more.ensures, v.ok.0, v.ok.1, v.small)

pub invariant_of-self-2 : goal.invariant_of-self-2
invariant_of-self-2 c = record { counted = omega (arith, depth_after c.args.self.now.frames.items c.push.new.self.items c.args.frame c.in_ok-push.ensures.items, c.args.self.now.counted, c.counts-more.ensures) }

pub returns : goal.returns
returns c = open_push c.args.self.now _ c.args.frame c.in_ok-push.ensures.items
