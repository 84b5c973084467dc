use Rattle.std.proofs.Common.{rules, arith, FitsSigned, w64, ◌<◌, length}
use Rattle.std.specs.Prelude.{unsigned_abs}
use Rattle.std.proofs.lemmas.Int.{to_z-of_z}
use Rattle.pl_table.proofs.Lengths.{code-within, not-missing}
use Rattle.pl_table.proofs.fields.put_label.Goals as goal

pub overflow_cast-code : goal.overflow_cast-code
overflow_cast-code c =
    let fits : FitsSigned w64 c.args.code = search rules in
    let few = c.len-rows.ensures.labels.texts.few in
    let own : unsigned_abs c.args.code < length c.args.labels.now.texts = code-within c.args.labels.now.texts c.args.code c.requires.code (not-missing c.args.code fits c.if-code-eq-MISSING.false) in
    let e = simp to_z-of_z at c.unsigned_abs-code.ensures in
    omega (arith, e, own, few)
