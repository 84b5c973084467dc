use Rattle.std.proofs.Common.{◌∙◌, ap, sym, w32, FitsSigned}
use Rattle.std.proofs.lemmas.Int.{to_z-of_z}
use Rattle.pl_numbers.specs.Numbers.{known_on}
use Rattle.pl_numbers.proofs.NumberNames.{name-behind, no-known}
use Rattle.pl_numbers.proofs.Numbers.known_under.Goals as goal

pub returns-in-Some-clause-exact : goal.returns-in-Some-clause-exact
returns-in-Some-clause-exact c =
    let day : FitsSigned w32 c.args.day = c.ranges.day in
    let exact = simp to_z-of_z at c.known_on.ensures.exact in
    exact
    ∙ ap (λ m. known_on c.args.self.now.rows m c.args.col c.args.day)
    (name-behind c.args.name.now c.args.self.now.names c.in-Some.number (sym c.requires ∙ c.in-Some.is))

pub returns-in-None-clause-exact : goal.returns-in-None-clause-exact
returns-in-None-clause-exact c =
    no-known c.args.name.now c.args.self.now.names c.args.self.now.rows c.len-rows.ensures.numbers.named (sym c.requires ∙ c.in-None.is) c.args.col c.args.day
