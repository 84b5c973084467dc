use Rattle.std.proofs.Common.{rules, ◌∙◌, ap, arith, FitsSigned}
use Rattle.std.specs.Int.{w128}
use Rattle.std.proofs.lemmas.Int.{to_z-of_z}
use Rattle.pl_fixed.specs.Reading.{in_range}
use Rattle.pl_fixed.proofs.DigitLemmas.{power_le}
use Rattle.pl_fixed.proofs.decimal.judge_long.Goals as goal

pub rounded-requires-clause-part : goal.rounded-requires-clause-part
rounded-requires-clause-part c = omega (arith, power_le c.args.digits c.requires.digits, c.requires.part)

pub returns : goal.returns
returns c =
    let fits : FitsSigned w128 c.rounded.result = search rules in
    c.in_range.ensures ∙ ap in_range (to_z-of_z w128 _ fits ∙ rw c.power_of_ten.ensures.value at c.rounded.ensures)
