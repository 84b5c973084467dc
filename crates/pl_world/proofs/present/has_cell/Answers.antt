use Rattle.std.proofs.Common.{◌∙◌, ap, rules, w64, FitsSigned}
use Rattle.std.proofs.lemmas.Int.{to_z-of_z}
use Rattle.pl_spec.specs.Rounding.{is_present}
use Rattle.pl_world.proofs.present.has_cell.Goals as goal

pub returns : goal.returns
returns c =
    let fits : FitsSigned w64 c.number_of.result = search rules in
    c.is_present.ensures ∙ ap is_present (to_z-of_z w64 _ fits ∙ c.number_of.ensures.value)
