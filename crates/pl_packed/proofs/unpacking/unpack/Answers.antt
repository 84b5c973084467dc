use Rattle.std.proofs.Common.{arith}
use Rattle.pl_packed.proofs.Rounds.{read-back}
use Rattle.pl_packed.proofs.unpacking.unpack.Goals as goal

pub returns-clause-packed : goal.returns-clause-packed
returns-clause-packed c = λ bars kept is.
    read-back c.args.sessions.now c.args.assets.now bars c.args.bytes.now (omega (arith, c.len-sessions.ensures.length, c.len-sessions.ensures.few))
    (omega (arith, c.len-cols.ensures.length, c.len-cols.ensures.few)) kept is c.unpacked.result c.unpacked.ensures
