use Rattle.std.proofs.Common.{arith}
use Rattle.std.proofs.lemmas.Int.{ints, to_z-of_z}
use Rattle.pl_values.proofs.labels.label_test_value.Goals as goal

pub overflow_cast-code : goal.overflow_cast-code
overflow_cast-code c =
    let few = c.len-rows.ensures.labels.texts.few in
    let code = c.requires.code in
    grind (arith, ints, to_z-of_z, few, code)
