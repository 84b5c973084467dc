use Rattle.std.proofs.Common.{◌≡◌, ◌∙◌, ap, sym, rules, w32, FitsSigned, option_and_then, unwrap_or, Option, List, [], ℕ}
use Rattle.std.proofs.lemmas.Int.{to_z-of_z}
use Rattle.pl_spec.specs.Numbers.{known_at}
use Rattle.pl_spec.specs.Parts.{sid_at}
use Rattle.pl_pipeline.specs.Value.{name_at}
use Rattle.pl_numbers.proofs.NumberWorlds.{known_those}
use Rattle.pl_world.specs.Worlds.{world_of}
use Rattle.pl_world.proofs.parts.number_day.Goals as goal

pub returns-clause-exact : goal.returns-clause-exact
returns-clause-exact c =
    let day : FitsSigned w32 c.day-day.result = search rules in
    let w = c.args.world.now in
    let sid = sid_at w.assets.now c.args.col in
    let text = c.label_name-text.result.now in
    let name : name_at c.args.checked.now.names c.args.name ≡ text = ap (λ (o : Option (List ℕ)). unwrap_or o []) c.label_name-text.ensures in
    let those = known_those w.assets.now w.numbers.now.rows c.parts_make_a_world.ensures.sound.assets.ascend c.requires.made.numbers_in text c.args.col c.day-day.result c.requires.col in
    simp to_z-of_z at c.known_under.ensures.exact
    ∙ sym (ap (option_and_then (known_at (world_of w).numbers (name_at c.args.checked.now.names c.args.name) sid)) c.day-day.ensures.exact
    ∙ ap (λ m. known_at (world_of w).numbers m sid c.day-day.result) name ∙ those)
