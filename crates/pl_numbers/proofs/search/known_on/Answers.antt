use Rattle.std.proofs.Common.{◌≡◌, ◌∙◌, Some, None, ap, rules, w32, FitsSigned}
use Rattle.std.proofs.lemmas.Int.{to_z-of_z}
use Rattle.pl_assets.specs.LabelPlaces.{key}
use Rattle.pl_numbers.specs.NumberPlaces.{KeyPoint}
use Rattle.pl_numbers.proofs.NumberSearch.{newest_known}
use Rattle.pl_numbers.proofs.search.known_on.Goals as goal

pub point_of-end-requires : goal.point_of-end-requires
point_of-end-requires c = rw c.deref.ensures.value c.requires.table.rise

pub returns-in-Some-clause-exact : goal.returns-in-Some-clause-exact
returns-in-Some-clause-exact c =
    let its_key : c.key.result ≡ key c.args.name c.args.col c.args.day = c.key.ensures ∙ ap (key c.args.name c.args.col) (to_z-of_z w32 c.args.day c.ranges.day) in
    let point : KeyPoint c.args.rows.now.places.items (key c.args.name c.args.col c.args.day) c.point_of-end.result = rw (c.deref.ensures.value, its_key) at c.point_of-end.ensures.point in
    let fits : FitsSigned w32 c.in-Some.place.known = search rules in
    ap (λ x. Some x) (to_z-of_z w32 c.in-Some.place.known fits)
    ∙ newest_known c.args.rows.now c.args.name c.args.col c.args.day (Some c.in-Some.place) (rw c.in-Some.is at (c.newest_before-newest.ensures.newest c.args.day c.ranges.day point))

pub returns-in-None-clause-exact : goal.returns-in-None-clause-exact
returns-in-None-clause-exact c =
    let its_key : c.key.result ≡ key c.args.name c.args.col c.args.day = c.key.ensures ∙ ap (key c.args.name c.args.col) (to_z-of_z w32 c.args.day c.ranges.day) in
    let point : KeyPoint c.args.rows.now.places.items (key c.args.name c.args.col c.args.day) c.point_of-end.result = rw (c.deref.ensures.value, its_key) at c.point_of-end.ensures.point in
    newest_known c.args.rows.now c.args.name c.args.col c.args.day None (rw c.in-None.is at (c.newest_before-newest.ensures.newest c.args.day c.ranges.day point))
