use Rattle.std.proofs.Common.{pos, rules, ap, ◌∙◌, FitsSigned, unsigned_abs}
use Rattle.std.specs.Int.{w128}
use Rattle.std.specs.Int.RustNames.{int_lt}
use Rattle.std.proofs.lemmas.Int.{to_z-of_z}
use Rattle.pl_spec.specs.Decimals.{signed}
use Rattle.pl_fixed.proofs.RoundingLemmas.{div_round-by_sizes}
use Rattle.pl_fixed.proofs.rounding.guessed_quotient.Goals as goal

pub returns-in-Some : goal.returns-in-Some
returns-in-Some c =
    let fa : FitsSigned w128 c.args.a = c.ranges.a in
    let fb : FitsSigned w128 c.args.b = c.ranges.b in
    let f : FitsSigned w128 c.signed.result = search rules in
    let size = simp to_z-of_z at c.unsigned_abs-size.ensures.value in
    let divisor = simp to_z-of_z at c.unsigned_abs-divisor.ensures.value in
    let sign = simp to_z-of_z at c.signed.ensures in
    let quotient = rw (c.in-Some.is, size, divisor) at c.whole_quotient-found.ensures in
    to_z-of_z w128 _ f ∙ sign ∙ ap (signed (int_lt c.args.a (pos 0))) quotient ∙ div_round-by_sizes c.args.a (unsigned_abs c.args.b)
