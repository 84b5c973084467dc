use Rattle.std.proofs.Common.{◌∙◌, ap, sym, rules, w32, w64, FitsSigned, option_map, unwrap_or, Option, ℤ}
use Rattle.std.proofs.lemmas.Int.{to_z-of_z}
use Rattle.pl_spec.specs.Rounding.{MISSING}
use Rattle.pl_spec.specs.Numbers.{number_at}
use Rattle.pl_spec.specs.Parts.{sid_at}
use Rattle.pl_numbers.proofs.NumberWorlds.{numbers_those}
use Rattle.pl_world.specs.Worlds.{world_of}
use Rattle.pl_world.proofs.parts.number_of.Goals as goal

pub returns-clause-value : goal.returns-clause-value
returns-clause-value c =
    let fits : FitsSigned w64 c.number_under.result = search rules in
    let day : FitsSigned w32 c.day-day.result = search rules in
    let w = c.args.world.now in
    let sid = sid_at w.assets.now c.args.col in
    let those = numbers_those w.assets.now w.numbers.now.rows c.parts_make_a_world.ensures.sound.assets.ascend c.requires.made.numbers_in c.args.figure c.args.name.now c.args.col c.day-day.result c.requires.col in
    to_z-of_z w64 _ fits ∙ simp to_z-of_z at c.number_under.ensures.value
    ∙ sym (ap (λ (o : Option ℤ). unwrap_or (option_map (number_at c.args.figure (world_of w).numbers c.args.name.now sid) o) MISSING) c.day-day.ensures.exact ∙ those)
