use Rattle.std.proofs.Common.{◌∙◌, ◌^◌, ap, arith}
use Rattle.pl_fixed.specs.Reading.{in_range}
use Rattle.pl_fixed.proofs.DigitLemmas.{power_pos}
use Rattle.pl_fixed.proofs.ReadingLemmas.{exact_millionths, few_millionths}
use Rattle.pl_fixed.proofs.decimal.judge_short.Goals as goal

pub overflow_mul-part : goal.overflow_mul-part
overflow_mul-part c =
    omega (arith, few_millionths c.args.part (10 ^ c.args.digits) _ c.requires.part c.millionths_of_digit.ensures.value)

pub overflow_add-units : goal.overflow_add-units
overflow_add-units c =
    omega (arith, few_millionths c.args.part (10 ^ c.args.digits) _ c.requires.part c.millionths_of_digit.ensures.value, c.requires.units)

pub returns : goal.returns
returns c =
    c.in_short_range.ensures
    ∙ ap in_range (exact_millionths c.args.negative c.args.units c.args.part _ _ (power_pos c.args.digits) c.millionths_of_digit.ensures.value)
