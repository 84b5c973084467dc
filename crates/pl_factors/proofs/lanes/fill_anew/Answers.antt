use Rattle.std.proofs.Common.{◌<◌, ◌∙◌, arith, length}
use Rattle.pl_terms.specs.Kinds.{kind_of}
use Rattle.pl_factors.specs.Kinds.{formula_of}
use Rattle.pl_factors.proofs.Kept.{kept}
use Rattle.pl_factors.specs.Lanes.{formula_at}
use Rattle.pl_factors.specs.Spans.{TakesWindows}
use Rattle.pl_factors.proofs.Following.{holds_of, one_given, same_of}
use Rattle.pl_factors.proofs.lanes.fill_anew.Goals as goal

pub value_of-requires : goal.value_of-requires
value_of-requires c =
    let inside : c.loop-k.k < length c.args.out.now = omega (arith, c.loop-k-test.true, c.loop-k.auto.out) in
    holds_of (TakesWindows (kind_of c.args.kind.now)) _ _ _ _ _ _ c.window_at.ensures c.window_at-in-loop-k.ensures c.window_at-in-loop-k-2.ensures (c.requires.windows c.loop-k.k inside)

pub loop-k-preserved : goal.loop-k-preserved
loop-k-preserved c =
    let kind = kind_of c.args.kind.now in
    let inside : c.loop-k.k < length c.loop-k.out = omega (arith, c.loop-k-test.true, c.loop-k.auto.out) in
    rw (kept c.value_of.result c.value_of.ensures.cell) (one_given (formula_at kind c.args.size c.args.a.now c.args.b.now c.args.c.now) c.loop-k.k c.loop-k.out c.value_of.result c.loop-k.invariant inside
    (c.value_of.ensures.value ∙ same_of (formula_of kind) _ _ _ _ _ _ c.window_at.ensures c.window_at-in-loop-k.ensures c.window_at-in-loop-k-2.ensures) c.value_of.ensures.cell)
