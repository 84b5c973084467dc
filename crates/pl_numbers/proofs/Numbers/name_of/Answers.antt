use Rattle.std.proofs.Common.{◌<◌, ◌^◌, ◌∙◌, length, arith, rules, sym}
use Rattle.pl_assets.proofs.LabelKeys.{number_inside}
use Rattle.pl_numbers.proofs.Numbers.name_of.Goals as goal

pub overflow_cast-result : goal.overflow_cast-result
overflow_cast-result c =
    let rows = c.self.inside.rows in
    let inside : c.in-Some.number < length rows.names = number_inside rows.names c.args.name.now c.in-Some.number (sym c.number_of.ensures ∙ c.in-Some.is) in
    let small : c.in-Some.number < 2 ^ 32 = omega (arith, c.self.invariant.few_names) in
    search rules
