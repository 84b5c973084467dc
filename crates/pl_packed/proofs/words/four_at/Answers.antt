use Rattle.std.proofs.Common.{arith}
use Rattle.pl_packed.proofs.WordBytes.{four-at}
use Rattle.pl_packed.proofs.words.four_at.Goals as goal

pub returns : goal.returns
returns c = four-at c.args.bytes.now c.args.at c.from_le_bytes.result c.requires (λ k. omega (arith, c.type_inv.bytes k)) c.from_le_bytes.ensures
