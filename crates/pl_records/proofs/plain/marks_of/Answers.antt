use Rattle.std.proofs.Common.{leb, w8, arith}
use Rattle.std.specs.Simd.Lanes.{chunk}
use Rattle.std.proofs.lemmas.Simd.{bitmask_splat, length-chunk}
use Rattle.pl_records.proofs.plain.marks_of.Goals as goal

pub returns : goal.returns
returns c = bitmask_splat w8 leb (chunk c.args.at 16 c.args.text.now) 16 44 (length-chunk c.args.at 16 c.args.text.now c.requires) (omega arith)
