use Rattle.std.proofs.Common.{rules, ◌<◌, ◌∙◌, ap, sym, subst, arith, length, w64, All, FitsSigned}
use Rattle.std.proofs.lemmas.Int.{to_z-of_z}
use Rattle.pl_spec.specs.Rounding.{IsCell}
use Rattle.pl_factors.specs.Terms.{deviation_by}
use Rattle.pl_factors.specs.Lanes.{deviated_at}
use Rattle.pl_factors.proofs.Following.{all_given, cells_at, none_given, one_given}
use Rattle.pl_factors.proofs.lanes.fill_deviated.Goals as goal

pub deviation_by-requires-clause-cells : goal.deviation_by-requires-clause-cells
deviation_by-requires-clause-cells c = subst (All IsCell) (sym c.window_at.ensures) (cells_at _ c.loop-k.k c.args.a.now c.requires.cells)

pub loop-k-init : goal.loop-k-init
loop-k-init c = none_given (deviated_at c.args.weights.now c.args.a.now) c.args.out.now

pub loop-k-preserved : goal.loop-k-preserved
loop-k-preserved c =
    let r : FitsSigned w64 c.deviation_by.result = search rules in
    let inside : c.loop-k.k < length c.loop-k.out = omega (arith, c.loop-k-test.true) in
    rw (to_z-of_z w64 _ r) (one_given (deviated_at c.args.weights.now c.args.a.now) c.loop-k.k c.loop-k.out c.deviation_by.result c.loop-k.invariant inside
    (c.deviation_by.ensures.value ∙ ap (deviation_by c.args.weights.now) c.window_at.ensures) c.deviation_by.ensures.cell)

pub returns : goal.returns
returns c = all_given (deviated_at c.args.weights.now c.args.a.now) (length c.args.out.now) c.loop-k.k c.loop-k.out (omega (arith, c.loop-k-test.false)) c.loop-k.invariant
