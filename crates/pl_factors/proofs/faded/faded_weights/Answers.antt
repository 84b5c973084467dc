use Rattle.std.proofs.Common.{ℤ, ◌≡◌, ◌≤◌, ◌+◌, ◌-◌, suc, arith, refl, ap, ap₂, ◌∙◌, sym, pos, ◌*ℤ◌, ◌≤ℤ◌, unsigned_abs, FitsSigned, to_z, of_z, w64, length, length-set, All, subst}
use Rattle.std.specs.Int.{w128}
use Rattle.std.proofs.lemmas.Int.{to_z-of_z, to_z_pos, ints, fits_signed_from_abs}
use Rattle.std.proofs.lemmas.List.{drop_all}
use Rattle.pl_spec.specs.Rounding.{MILLION, div_round, IsCell}
use Rattle.pl_pipeline.specs.Formula.{FINE, faded}
use Rattle.pl_spec.specs.Cells.{total}
use Rattle.pl_factors.proofs.Totals.{terms-begin, terms-next, terms-end}
use Rattle.pl_factors.proofs.FadedLemmas.{weights-sum, weights-cells, weights-more, weights-all}
use Rattle.pl_factors.proofs.faded.faded_weights.Goals as goal

as_it_is : (d : ℤ) → pos 0 ≤ℤ d → pos (unsigned_abs d) ≡ d
as_it_is d h = omega (arith, ints)

within : (d : ℤ) → pos 0 ≤ℤ d → d ≤ℤ pos MILLION → unsigned_abs d ≤ MILLION
within d h k = omega (arith, ints)

pub loop-back-init : goal.loop-back-init
loop-back-init c = record {
  weight = refl;
  small = c.requires.unit;
  sum = terms-begin _ _;
  long = refl;
  within = omega arith;
  written = drop_all (length c.args.weights.now - 0) c.args.weights.now (omega arith);
}

pub loop-back-preserved : goal.loop-back-preserved
loop-back-preserved c =
    let inv = c.loop-back.invariant in
    let back = c.loop-back.back in
    let weight = c.loop-back.next in
    let d = to_z w64 (of_z w64 c.args.decay) in
    let fd : FitsSigned w64 c.args.decay = c.ranges.decay in
    let positive : pos 0 ≤ℤ d = rw (to_z-of_z w64 c.args.decay fd) c.requires.low in
    let decay : pos c.unsigned_abs.result ≡ d = ap pos c.unsigned_abs.ensures.value ∙ as_it_is d positive in
    let more : back + 1 ≡ suc back = omega arith in
    let small : weight ≤ FINE = inv.small in
    let fw : FitsSigned w128 (pos weight) = fits_signed_from_abs w128 _ (omega arith) in
    let cast : to_z w128 weight ≡ to_z w128 (of_z w128 (pos weight)) = to_z_pos w128 weight (omega arith) ∙ sym (to_z-of_z w128 (pos weight) fw) in
    record {
      weight = c.faded-next.ensures.value ∙ ap₂ (λ w e. div_round (w *ℤ e) MILLION) inv.weight decay ∙ sym (ap (faded c.args.one d) more);
      small = omega (arith, c.faded-next.ensures.small, small);
      sum = rw cast (terms-next _ FINE back _ _ (omega arith) (omega arith) fw small inv.sum inv.weight);
      long = length-set c.loop-back.weights _ _ ∙ inv.long;
      within = omega arith;
      written = weights-more c.args.one d c.loop-back.weights _ back _ _ inv.long (omega arith) refl (to_z_pos w64 weight (omega arith) ∙ inv.weight) inv.written;
    }

pub returns-clause-cells : goal.returns-clause-cells
returns-clause-cells c =
    let inv = c.loop-back.invariant in
    let d = to_z w64 (of_z w64 c.args.decay) in
    let fd : FitsSigned w64 c.args.decay = c.ranges.decay in
    let low : pos 0 ≤ℤ d = rw (to_z-of_z w64 c.args.decay fd) c.requires.low in
    let high : d ≤ℤ pos MILLION = rw (to_z-of_z w64 c.args.decay fd) c.requires.high in
    let is = weights-all c.args.one d c.loop-back.weights _ c.loop-back.back (omega (arith, c.loop-back-test.false)) inv.within inv.written in
    subst (All IsCell) (sym is) (weights-cells c.args.one d c.requires.unit (within d low high) _)

pub returns-clause-sum : goal.returns-clause-sum
returns-clause-sum c =
    let inv = c.loop-back.invariant in
    let d = to_z w64 (of_z w64 c.args.decay) in
    let n = length c.args.weights.now in
    let is = weights-all c.args.one d c.loop-back.weights n c.loop-back.back (omega (arith, c.loop-back-test.false)) inv.within inv.written in
    (terms-end _ _ c.loop-back.back n _ (omega (arith, c.loop-back-test.false, inv.within)) c.requires.few inv.sum).0 ∙ sym (ap total is ∙ weights-sum c.args.one d n)
