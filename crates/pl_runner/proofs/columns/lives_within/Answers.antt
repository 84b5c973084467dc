use Rattle.std.proofs.Common.{◌∙◌, sym, arith}
use Rattle.pl_world.specs.Worlds.{world_of}
use Rattle.pl_runner.proofs.Living.{lives-some, lives-none}
use Rattle.pl_runner.proofs.columns.lives_within.Goals as goal

pub returns-then-exists : goal.returns-then-exists
returns-then-exists c =
    sym (lives-some (world_of c.args.asked.now.world) c.args.low c.args.to c.args.col c.loop-session.session (omega arith) (omega arith) (sym c.exists.ensures.value ∙ c.if-exists.true))

pub returns : goal.returns
returns c =
    sym (lives-none (world_of c.args.asked.now.world) c.args.low c.args.to c.args.col (λ s a b. c.loop-session.invariant s a (omega arith)))
