use Rattle.std.proofs.Common.{◌<◌, ◌^◌, arith, rules}
use Rattle.std.proofs.lemmas.List.{length-map}
use Rattle.pl_assets.proofs.FirstSeen.{place_count}
use Rattle.pl_numbers.specs.NumberPlaces.{row_at}
use Rattle.pl_numbers.proofs.NumberRowsMade.{few_names}
use Rattle.pl_numbers.proofs.reading.next_number.Goals as goal

pub overflow_cast-next : goal.overflow_cast-next
overflow_cast-next c =
    let before = c.args.before.now in
    let small : c.number_of.result < 2 ^ 32 = omega (arith, c.number_of.ensures, place_count before.names c.field.result.now, few_names before c.requires.numbered, c.requires.few, length-map before.places.items (row_at before.names)) in
    search rules
