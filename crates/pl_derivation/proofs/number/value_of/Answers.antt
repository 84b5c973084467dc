use Rattle.std.proofs.Common.{arith, get_or}
use Rattle.std.proofs.lemmas.Str.Parse.{digit_at}
use Rattle.std.proofs.lemmas.Str.{digit_value_digit}
use Rattle.std.proofs.lemmas.Int.Digits.{digits_value_more}
use Rattle.std.specs.Char.{digit_value}
use Rattle.pl_fixed.proofs.DigitLemmas.{capped}
use Rattle.pl_derivation.proofs.number.value_of.Goals as goal

pub overflow_sub-digit : goal.overflow_sub-digit
overflow_sub-digit c = (digit_at c.args.digits.now c.loop-digit.digit-index c.requires c.loop-digit-test.true).0

pub loop-digit-preserved : goal.loop-digit-preserved
loop-digit-preserved c =
    let more = digits_value_more 10 c.args.digits.now c.loop-digit.digit-index c.loop-digit-test.true in
    let range = digit_at c.args.digits.now c.loop-digit.digit-index c.requires c.loop-digit-test.true in
    let digit = digit_value_digit _ range in
    let number = digit_value (get_or c.args.digits.now c.loop-digit.digit-index 0) in
    capped 100000000000000001 c.loop-digit.value _ number c.from.result _ c.min-value.result c.loop-digit.invariant more (omega arith) c.min-value.ensures
