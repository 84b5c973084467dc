use Rattle.std.proofs.Common.{◌≡◌, ◌≤◌, ◌*◌, ◌∙◌, ◌-ℤ◌, ℤ, pos, unsigned_abs, false, arith, rules, refl, w64, FitsSigned}
use Rattle.std.proofs.lemmas.Int.{fits_signed_from_abs, to_z-of_z}
use Rattle.pl_spec.specs.Rounding.{IsCell, LIMIT, is_missing}
use Rattle.pl_lanes.proofs.Cells.{is_within}
use Rattle.pl_factors.proofs.Casts.{both_there, one_gone, apart}
use Rattle.pl_factors.proofs.Kept.{kept}
use Rattle.pl_factors.proofs.ranges.gap.Goals as goal

near : (x y : ℤ) → IsCell x → IsCell y → (is_missing x ≡ false) × (is_missing y ≡ false) → unsigned_abs (x -ℤ y) ≤ 2 * LIMIT
near x y h k there = apart y x (is_within y k there.1) (is_within x h there.0)

pub overflow_sub-x : goal.overflow_sub-x
overflow_sub-x c =
    let there = both_there c.args.x c.args.y c.ranges.x c.ranges.y c.if-y-eq-MISSING.false in
    let small = near c.args.x c.args.y c.requires.first c.requires.second there in
    rw (kept c.args.x c.requires.first, kept c.args.y c.requires.second) (fits_signed_from_abs w64 _ (omega (arith, small)))

pub returns-then-y-eq-MISSING : goal.returns-then-y-eq-MISSING
returns-then-y-eq-MISSING c = let e = one_gone c.args.x c.args.y c.ranges.x c.ranges.y c.if-y-eq-MISSING.either in rw e refl

pub returns-else-y-eq-MISSING : goal.returns-else-y-eq-MISSING
returns-else-y-eq-MISSING c =
    let there = both_there c.args.x c.args.y c.ranges.x c.ranges.y c.if-y-eq-MISSING.false in
    let small = near c.args.x c.args.y c.requires.first c.requires.second there in
    let fits : FitsSigned w64 (c.args.x -ℤ c.args.y) = fits_signed_from_abs w64 _ (omega (arith, small)) in
    let back : FitsSigned w64 c.abs.result = search rules in
    let is : c.abs.result ≡ pos (unsigned_abs (c.args.x -ℤ c.args.y))
    = rw (kept c.args.x c.requires.first, kept c.args.y c.requires.second, to_z-of_z w64 _ fits) at c.abs.ensures.value in
    rw (there.0, there.1) (to_z-of_z w64 _ back ∙ is)
