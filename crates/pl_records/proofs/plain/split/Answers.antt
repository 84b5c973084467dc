use Rattle.std.proofs.Common.{arith}
use Rattle.pl_records.proofs.PlainLines.{cut-none}
use Rattle.pl_records.proofs.plain.split.Goals as goal

pub parts-init : goal.parts-init
parts-init c = record {
  most = omega arith;
  begun = record { few = omega arith; cut = cut-none c.args.text.now c.requires.some c.requires.starts };
}

pub parts-preserved : goal.parts-preserved
parts-preserved c = record { most = omega arith; begun = rw c.in-On.is at c.split_part-cut.ensures }

pub returns-in-End : goal.returns-in-End
returns-in-End c = (let ended = rw c.in-End.is at c.split_part-cut.ensures in record { few = ended.0; within = ended.1; «record» = ended.2 })
