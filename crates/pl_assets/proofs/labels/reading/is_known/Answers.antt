use Rattle.std.proofs.Common.{◌∙◌, ◌≡◌, ◌<◌, ◌^◌, sym, ap, arith, rules, w32, nat_eq, length}
use Rattle.std.proofs.lemmas.Int.{to_z-of_z}
use Rattle.std.proofs.lemmas.List.{length-map}
use Rattle.std.specs.HashSet.{contains}
use Rattle.pl_assets.specs.LabelPlaces.{key, row_at}
use Rattle.pl_assets.proofs.LabelKeys.{is_known, not_named, number_inside}
use Rattle.pl_assets.proofs.LabelRowsMade.{few_names}
use Rattle.pl_assets.proofs.labels.reading.is_known.Goals as goal

pub overflow_cast-number : goal.overflow_cast-number
overflow_cast-number c =
    let inside : c.in-Some.number < length c.args.rows.now.names = number_inside c.args.rows.now.names c.args.name.now c.in-Some.number (sym c.number_of.ensures ∙ c.in-Some.is) in
    let small : c.in-Some.number < 2 ^ 32 = omega (arith, few_names c.args.rows.now c.requires.numbered, c.requires.few, length-map c.args.rows.now.places.items (row_at c.args.rows.now.names c.args.rows.now.texts)) in
    search rules

pub returns-in-Some : goal.returns-in-Some
returns-in-Some c =
    let small : c.args.col < 2 ^ 64 = c.ranges.col.fits in
    let its_key : c.key.result ≡ key c.in-Some.number c.args.col c.args.day = c.key.ensures ∙ ap (key c.in-Some.number c.args.col) (to_z-of_z w32 c.args.day c.ranges.day) in
    c.contains.ensures ∙ ap (contains nat_eq c.args.keys.now) its_key ∙ c.requires.keys.each (key c.in-Some.number c.args.col c.args.day)
    ∙ is_known c.args.rows.now c.args.name.now c.in-Some.number c.args.col c.args.day c.requires.numbered (sym c.number_of.ensures ∙ c.in-Some.is) small c.ranges.day

pub returns-in-None : goal.returns-in-None
returns-in-None c = sym (not_named c.args.rows.now c.args.name.now c.args.col c.args.day c.requires.numbered (sym c.number_of.ensures ∙ c.in-None.is))
