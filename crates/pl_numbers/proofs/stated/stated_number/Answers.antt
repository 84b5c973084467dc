use Rattle.std.proofs.Common.{◌<◌, ◌≤◌, ◌^◌, length, arith, rules}
use Rattle.std.proofs.lemmas.List.{length-map}
use Rattle.pl_assets.proofs.FirstSeen.{place_count}
use Rattle.pl_spec.specs.Limits.{most_numbers}
use Rattle.pl_numbers.specs.NumberPlaces.{row_at}
use Rattle.pl_numbers.proofs.NumberRowsMade.{few_names}
use Rattle.pl_numbers.proofs.stated.stated_number.Goals as goal

pub overflow_cast-result : goal.overflow_cast-result
overflow_cast-result c =
    let before = c.args.before.now in
    let few : length before.places.items ≤ most_numbers = search rules in
    let small : c.number_of.result < 2 ^ 32 = omega (arith, c.number_of.ensures, place_count before.names c.field.result.now, few_names before c.requires, few, length-map before.places.items (row_at before.names)) in
    search rules
