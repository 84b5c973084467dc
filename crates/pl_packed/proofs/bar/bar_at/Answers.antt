use Rattle.std.proofs.Common.{arith}
use Rattle.pl_packed.proofs.BarWords.{bar-there, bar-small}
use Rattle.pl_packed.proofs.bar.bar_at.Goals as goal

pub returns-clause-bytes : goal.returns-clause-bytes
returns-clause-bytes c =
    bar-there c.args.bytes.now c.args.at c.eight_at-key.result _ _ _ _ _ _ _ _ _ _ (omega arith) (omega arith) (omega arith) (omega arith) (omega arith)
    c.cast_signed.ensures c.cast_signed-2.ensures c.cast_signed-3.ensures c.cast_signed-4.ensures c.cast_signed-5.ensures
    c.eight_at-key.ensures c.eight_at.ensures c.eight_at-2.ensures c.eight_at-3.ensures c.eight_at-4.ensures c.eight_at-5.ensures

pub returns-clause-small : goal.returns-clause-small
returns-clause-small c =
    bar-small c.eight_at-key.result _ _ _ _ _ _ _ _ _ _ (omega arith) (omega arith) (omega arith) (omega arith) (omega arith) (omega arith)
    c.cast_signed.ensures c.cast_signed-2.ensures c.cast_signed-3.ensures c.cast_signed-4.ensures c.cast_signed-5.ensures
