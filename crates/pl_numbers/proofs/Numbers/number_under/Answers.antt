use Rattle.std.proofs.Common.{◌∙◌, ap, sym, rules, w32, w64, FitsSigned}
use Rattle.std.proofs.lemmas.Int.{to_z-of_z}
use Rattle.pl_numbers.specs.Numbers.{number_on}
use Rattle.pl_numbers.proofs.NumberNames.{name-behind, no-name}
use Rattle.pl_numbers.proofs.Numbers.number_under.Goals as goal

pub returns-in-Some-clause-value : goal.returns-in-Some-clause-value
returns-in-Some-clause-value c =
    let day : FitsSigned w32 c.args.day = c.ranges.day in
    let fits : FitsSigned w64 c.number_on.result = search rules in
    let value = simp to_z-of_z at c.number_on.ensures.value in
    to_z-of_z w64 _ fits ∙ value
    ∙ ap (λ m. number_on c.args.figure c.args.self.now.rows m c.args.col c.args.day)
    (name-behind c.args.name.now c.args.self.now.names c.in-Some.number (sym c.requires ∙ c.in-Some.is))

pub returns-in-None-clause-value : goal.returns-in-None-clause-value
returns-in-None-clause-value c =
    no-name c.args.name.now c.args.self.now.names c.args.self.now.rows c.len-rows.ensures.numbers.named (sym c.requires ∙ c.in-None.is) c.args.figure c.args.col c.args.day
