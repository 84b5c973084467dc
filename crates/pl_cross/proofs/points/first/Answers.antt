use Rattle.std.proofs.Common.{◌∙◌, arith}
use Rattle.pl_cross.proofs.Selecting.{first-is, all-first}
use Rattle.pl_cross.proofs.points.first.Goals as goal

pub returns-then-n-group : goal.returns-then-n-group
returns-then-n-group c = λ k d h. c.mark_before.ensures k d h ∙ first-is c.args.group.now c.args.n k d c.nth.result c.nth.ensures h

pub returns-else-n-group : goal.returns-else-n-group
returns-else-n-group c = λ k d h. c.clear.ensures.each k (omega (arith, h, c.requires.room)) ∙ all-first c.args.group.now c.args.n k d (omega (arith, c.if-n-group.false)) h
