use Rattle.std.proofs.Common.{◌≡◌, ◌≤◌, ◌+◌, ◌*◌, ap, ◌∙◌, arith, pos, FitsSigned, w64, length, nat_eq, ne_eqb, false, true, inr}
use Rattle.std.proofs.lemmas.Int.{to_z_pos, fits_signed_from_abs}
use Rattle.pl_spec.specs.Rounding.{is_missing}
use Rattle.pl_spec.specs.Cells.{count}
use Rattle.pl_factors.specs.Terms.{first_place}
use Rattle.pl_fixed.proofs.CellLemmas.{is_missing-not}
use Rattle.pl_factors.proofs.FirstPlaces.{place-few}
use Rattle.pl_factors.proofs.places.place_number.Goals as goal

pub returns-clause-value : goal.returns-clause-value
unfolding first_place
returns-clause-value c =
    let xs = c.args.a.now in
    let fx : FitsSigned w64 c.args.x = c.ranges.x in
    let there = is_missing-not c.args.x fx c.if-x-eq-MISSING.false in
    let some : nat_eq (count xs) 0 ≡ false = ne_eqb _ _ (λ z. let m : is_missing c.args.x ≡ true = c.requires.known.1 z in cc) in
    let few : c.args.place ≤ length xs = omega (arith, place-few c.args.x xs, c.requires.place) in
    rw some (to_z_pos w64 ((c.args.place + 1) * 1000000) (omega (arith, few, c.requires.few)) ∙ ap (λ n. pos ((n + 1) * 1000000)) c.requires.place)

pub overflow_add-result : goal.overflow_add-result
overflow_add-result c = omega (arith, place-few c.args.x c.args.a.now, c.requires.place, c.requires.few)

pub overflow_mul-result : goal.overflow_mul-result
overflow_mul-result c = omega (arith, place-few c.args.x c.args.a.now, c.requires.place, c.requires.few)

pub overflow_cast-result : goal.overflow_cast-result
overflow_cast-result c = fits_signed_from_abs w64 _ (omega (arith, place-few c.args.x c.args.a.now, c.requires.place, c.requires.few))

pub returns-clause-cell : goal.returns-clause-cell
returns-clause-cell c =
    let few : c.args.place ≤ length c.args.a.now = omega (arith, place-few c.args.x c.args.a.now, c.requires.place) in
    rw (to_z_pos w64 ((c.args.place + 1) * 1000000) (omega (arith, few, c.requires.few))) (inr (omega (arith, few, c.requires.few)))
