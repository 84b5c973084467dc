use Rattle.std.proofs.Common.{◌<◌, ◌^◌, ◌∙◌, length, arith, rules, sym}
use Rattle.std.proofs.lemmas.List.{length-map}
use Rattle.pl_assets.specs.LabelPlaces.{row_at}
use Rattle.pl_assets.proofs.LabelKeys.{number_inside}
use Rattle.pl_assets.proofs.LabelRowsMade.{few_names}
use Rattle.pl_assets.proofs.labels.Labels.name_of.Goals as goal

pub overflow_cast-result : goal.overflow_cast-result
overflow_cast-result c =
    let rows = c.self.inside.rows in
    let inside : c.in-Some.number < length rows.names = number_inside rows.names c.args.name.now c.in-Some.number (sym c.number_of.ensures ∙ c.in-Some.is) in
    let small : c.in-Some.number < 2 ^ 32 = omega (arith, few_names rows c.self.invariant.numbered, c.self.invariant.labels.few, length-map rows.places.items (row_at rows.names rows.texts)) in
    search rules
