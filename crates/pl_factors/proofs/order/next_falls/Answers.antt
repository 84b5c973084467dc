use Rattle.std.proofs.Common.{◌≡◌, refl, ap₂, ◌∙◌, ◌-ℤ◌, ◌<ℤ◌, ◌≤ℤ◌, pos, rules, arith, FitsSigned, w64, to_z, of_z, get_or}
use Rattle.std.specs.Int.{int_max}
use Rattle.std.proofs.lemmas.Int.{to_z-of_z, ints}
use Rattle.pl_lanes.proofs.Bits.{at-cell, at-exact, cell-fits}
use Rattle.pl_lanes.proofs.Cells.{is_gone}
use Rattle.pl_fixed.proofs.CellLemmas.{is_missing-not}
use Rattle.pl_factors.proofs.Falling.{gone, deeper, as-deep, peak-cell, deep-fits, fall-fits}
use Rattle.pl_factors.proofs.order.next_falls.Goals as goal

pub returns-then-x : goal.returns-then-x
returns-then-x c =
    let a = c.args.a.now in
    let fx = cell-fits _ (at-cell a c.args.at c.requires.cells) in
    gone a c.args.at c.requires.cells c.requires.at c.args.falls c.requires.falls (is_gone (get_or a c.args.at (pos 0)) fx c.if-x.true)

pub overflow_sub-fall : goal.overflow_sub-fall
overflow_sub-fall c =
    let a = c.args.a.now in
    let x = get_or a c.args.at (pos 0) in
    let f = c.args.falls in
    let there = is_missing-not x (cell-fits _ (at-cell a c.args.at c.requires.cells)) c.if-x.false in
    let xe : to_z w64 (of_z w64 x) ≡ x = at-exact a c.args.at c.requires.cells in
    let fp = cell-fits f.peak (peak-cell a c.args.at c.requires.cells c.requires.at f c.requires.falls) in
    let fr : FitsSigned w64 c.max-peak.result = search rules in
    let pe : to_z w64 (of_z w64 c.max-peak.result) ≡ int_max f.peak x = to_z-of_z w64 _ fr ∙ c.max-peak.ensures.value ∙ ap₂ int_max (to_z-of_z w64 f.peak fp) xe in
    rw (pe, xe) (fall-fits a c.args.at c.requires.cells c.requires.at f c.requires.falls there)

pub returns-then-fall-falls : goal.returns-then-fall-falls
returns-then-fall-falls c =
    let a = c.args.a.now in
    let x = get_or a c.args.at (pos 0) in
    let f = c.args.falls in
    let there = is_missing-not x (cell-fits _ (at-cell a c.args.at c.requires.cells)) c.if-x.false in
    let xe : to_z w64 (of_z w64 x) ≡ x = at-exact a c.args.at c.requires.cells in
    let fp = cell-fits f.peak (peak-cell a c.args.at c.requires.cells c.requires.at f c.requires.falls) in
    let fr : FitsSigned w64 c.max-peak.result = search rules in
    let pe : to_z w64 (of_z w64 c.max-peak.result) ≡ int_max f.peak x = to_z-of_z w64 _ fr ∙ c.max-peak.ensures.value ∙ ap₂ int_max (to_z-of_z w64 f.peak fp) xe in
    let fd = fall-fits a c.args.at c.requires.cells c.requires.at f c.requires.falls there in
    let de : to_z w64 (of_z w64 f.deepest) ≡ f.deepest = to_z-of_z w64 _ (deep-fits a c.args.at c.requires.cells c.requires.at f c.requires.falls) in
    let ge : to_z w64 (of_z w64 (int_max f.peak x -ℤ x)) ≡ int_max f.peak x -ℤ x = to_z-of_z w64 _ fd in
    let less : f.deepest <ℤ (int_max f.peak x -ℤ x) = (let l = rw (pe, xe, ge) at c.if-fall-falls.true in omega (arith, ints, l, de)) in
    rw (pe, xe, ge) (deeper a c.args.at c.requires.cells c.requires.at f c.requires.falls there _ refl less)

pub returns-else-fall-falls : goal.returns-else-fall-falls
returns-else-fall-falls c =
    let a = c.args.a.now in
    let x = get_or a c.args.at (pos 0) in
    let f = c.args.falls in
    let there = is_missing-not x (cell-fits _ (at-cell a c.args.at c.requires.cells)) c.if-x.false in
    let xe : to_z w64 (of_z w64 x) ≡ x = at-exact a c.args.at c.requires.cells in
    let fp = cell-fits f.peak (peak-cell a c.args.at c.requires.cells c.requires.at f c.requires.falls) in
    let fr : FitsSigned w64 c.max-peak.result = search rules in
    let pe : to_z w64 (of_z w64 c.max-peak.result) ≡ int_max f.peak x = to_z-of_z w64 _ fr ∙ c.max-peak.ensures.value ∙ ap₂ int_max (to_z-of_z w64 f.peak fp) xe in
    let fd = fall-fits a c.args.at c.requires.cells c.requires.at f c.requires.falls there in
    let de : to_z w64 (of_z w64 f.deepest) ≡ f.deepest = to_z-of_z w64 _ (deep-fits a c.args.at c.requires.cells c.requires.at f c.requires.falls) in
    let ge : to_z w64 (of_z w64 (int_max f.peak x -ℤ x)) ≡ int_max f.peak x -ℤ x = to_z-of_z w64 _ fd in
    let most : (int_max f.peak x -ℤ x) ≤ℤ f.deepest = (let l = rw (pe, xe, ge) at c.if-fall-falls.false in omega (arith, ints, l, de)) in
    rw (pe, de) (as-deep a c.args.at c.requires.cells c.requires.at f c.requires.falls there _ refl most)
