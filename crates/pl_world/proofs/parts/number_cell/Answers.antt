use Rattle.std.proofs.Common.{◌≡◌, [], ◌∙◌, ap, sym, rules, w64, FitsSigned, pos, unwrap_or, Option, List, ℕ}
use Rattle.std.proofs.lemmas.Int.{to_z-of_z}
use Rattle.pl_spec.specs.Parts.{sid_at}
use Rattle.pl_pipeline.specs.Value.{name_at}
use Rattle.pl_spec.specs.World.{known_number}
use Rattle.pl_world.specs.Worlds.{world_of}
use Rattle.pl_world.proofs.parts.number_cell.Goals as goal

pub returns-clause-value : goal.returns-clause-value
returns-clause-value c =
    let fits : FitsSigned w64 c.number_of.result = search rules in
    let w = c.args.world.now in
    let name : name_at c.args.checked.now.names c.args.name ≡ c.label_name-text.result.now = ap (λ (o : Option (List ℕ)). unwrap_or o []) c.label_name-text.ensures in
    to_z-of_z w64 _ fits ∙ c.number_of.ensures.value ∙ sym (ap (λ m. known_number (world_of w) c.args.figure m (sid_at w.assets.now c.args.col) (pos c.args.session)) name)
