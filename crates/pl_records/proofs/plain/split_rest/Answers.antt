use Rattle.std.proofs.Common.{◌≡◌, length, arith}
use Rattle.pl_records.proofs.PlainLines.{cut-high, cut-all}
use Rattle.pl_records.proofs.plain.split_rest.Goals as goal

pub loop-i-preserved-then-byte-gt44 : goal.loop-i-preserved-then-byte-gt44
loop-i-preserved-then-byte-gt44 c = record {
  few = c.loop-i.invariant.few;
  cut = cut-high c.args.text.now _ c.loop-i.begun.start c.loop-i.i c.loop-i-test.true c.if-byte-gt44.true c.loop-i.invariant.cut;
}

pub loop-i-preserved : goal.loop-i-preserved
loop-i-preserved c = rw c.in-On.is at c.cut_at-cut.ensures

pub returns-in-End : goal.returns-in-End
returns-in-End c = (let ended = rw c.in-End.is at c.cut_at-cut.ensures in record { few = ended.0; within = ended.1; «record» = ended.2 })

pub returns-clause-record : goal.returns-clause-record
returns-clause-record c =
    let end : c.loop-i.i ≡ length c.args.text.now = omega (arith, c.loop-i-test.false, c.loop-i.auto.i-end) in
    rw c.put_field.ensures (cut-all c.args.text.now _ c.loop-i.begun.start (rw end at c.loop-i.invariant.cut))
