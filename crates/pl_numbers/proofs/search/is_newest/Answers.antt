use Rattle.std.proofs.Common.{◌≡◌, ◌∙◌, Some, None, slice_get, rules, w32, FitsSigned, sym, ap, ap₂}
use Rattle.std.specs.Int.RustNames.{int_le}
use Rattle.std.proofs.lemmas.Int.{to_z-of_z}
use Rattle.std.proofs.lemmas.Option.{slice_get-get_or}
use Rattle.pl_numbers.specs.Numbers.{known_on}
use Rattle.pl_numbers.proofs.NumbersLast.{newest-at}
use Rattle.pl_numbers.proofs.search.is_newest.Goals as goal

pub returns-in-Some : goal.returns-in-Some
returns-in-Some c =
    let p = c.index-place.result.now in
    let at : slice_get c.args.rows.now.places.items c.args.i ≡ Some c.index-place.result.now = slice_get-get_or c.args.rows.now.places.items c.args.i c.index-place.result.now c.requires.within ∙ ap (λ x. Some x) (sym c.index-place.ensures) in
    let first : FitsSigned w32 c.in-Some.known = search rules in
    let second : FitsSigned w32 c.index-place.result.now.known = search rules in
    newest-at c.args.rows.now c.args.i p c.args.day at (Some c.in-Some.known) (rw (to_z-of_z w32 c.args.day c.ranges.day, c.in-Some.is) at c.known_on.ensures.exact)
    ∙ sym (ap₂ (λ a b. Some (int_le a b)) (to_z-of_z w32 _ first) (to_z-of_z w32 _ second))

pub returns-in-None : goal.returns-in-None
returns-in-None c =
    let p = c.index-place.result.now in
    let at : slice_get c.args.rows.now.places.items c.args.i ≡ Some c.index-place.result.now = slice_get-get_or c.args.rows.now.places.items c.args.i c.index-place.result.now c.requires.within ∙ ap (λ x. Some x) (sym c.index-place.ensures) in
    newest-at c.args.rows.now c.args.i p c.args.day at None (rw (to_z-of_z w32 c.args.day c.ranges.day, c.in-None.is) at c.known_on.ensures.exact)
