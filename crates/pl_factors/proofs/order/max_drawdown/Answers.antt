use Rattle.std.proofs.Common.{◌≡◌, ap, ap₂, sym, ◌∙◌, ◌*ℤ◌, pos, length, rules, arith, FitsSigned, w64, to_z, of_z, get_or}
use Rattle.std.specs.Int.{w128}
use Rattle.std.proofs.lemmas.Int.{to_z-of_z, fits_signed_from_abs}
use Rattle.pl_spec.specs.Rounding.{quot}
use Rattle.pl_lanes.proofs.Bits.{at-cell, cell-fits}
use Rattle.pl_lanes.proofs.Cells.{is_gone}
use Rattle.pl_fixed.proofs.CellLemmas.{is_missing-not}
use Rattle.pl_factors.proofs.Casts.{wide, scaled-fits}
use Rattle.pl_factors.proofs.Falling.{peak-fits, no-drawdown, drawdown-is, deep-small}
use Rattle.pl_factors.proofs.order.max_drawdown.Goals as goal

pub returns-then-falls-clause-value : goal.returns-then-falls-clause-value
returns-then-falls-clause-value c =
    let a = c.args.a.now in
    let f = c.loop-at.falls in
    let all : c.loop-at.at ≡ length a = omega (arith, c.loop-at-test.false, c.loop-at.auto.at-end) in
    let fp = peak-fits a c.loop-at.at c.requires.cells all f c.loop-at.invariant in
    sym (no-drawdown a c.loop-at.at c.requires.cells all f c.loop-at.invariant (is_gone f.peak fp c.if-falls.true))

pub returns-else-falls-clause-value : goal.returns-else-falls-clause-value
returns-else-falls-clause-value c =
    let a = c.args.a.now in
    let f = c.loop-at.falls in
    let all : c.loop-at.at ≡ length a = omega (arith, c.loop-at-test.false, c.loop-at.auto.at-end) in
    let fp = peak-fits a c.loop-at.at c.requires.cells all f c.loop-at.invariant in
    let there = is_missing-not f.peak fp c.if-falls.false in
    let small = deep-small a c.loop-at.at c.requires.cells all f c.loop-at.invariant there in
    let fd : FitsSigned w64 f.deepest = fits_signed_from_abs w64 f.deepest (omega (arith, small)) in
    let s = scaled-fits f.deepest (pos 1000000) small (omega arith) in
    let fr : FitsSigned w64 c.quot.result = search rules in
    to_z-of_z w64 _ fr ∙ c.quot.ensures.value ∙ ap₂ quot
    (ap (λ d. to_z w128 (of_z w128 (d *ℤ pos 1000000))) (wide f.deepest fd) ∙ to_z-of_z w128 _ s.0)
    (wide (get_or a f.place (pos 0)) (cell-fits _ (at-cell a f.place c.requires.cells)))
    ∙ sym (drawdown-is a c.loop-at.at c.requires.cells all f c.loop-at.invariant there)
