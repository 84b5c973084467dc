use Rattle.std.proofs.Common.{◌≡◌, ◌∙◌, ◌+◌, arith, drop, length, subst, sym}
use Rattle.pl_terms.specs.Checked.{pipeline_of}
use Rattle.pl_daily.proofs.Advances.{vec_back}
use Rattle.pl_daily.proofs.Depths.{AreDeepened, all-deep, deepened-more, deepened-none}
use Rattle.pl_daily.proofs.capacities.depths_of.Goals as goal

pub loop-k-init : goal.loop-k-init
loop-k-init c =
    deepened-none (pipeline_of c.args.checked.now) c.count-terms.result c.in_ok-depths.depths.items (c.in_ok-depths.ensures.items_if_clones_equal (λ y same. same)) c.count-terms.ensures.count

pub loop-k-preserved : goal.loop-k-preserved
loop-k-preserved c =
    let p = pipeline_of c.args.checked.now in
    let old = c.loop-k.depths in
    let new = c.deepen_by.new.depths in
    let back = vec_back old.len new (drop (length new) old.items) (sym c.deref_mut.ensures.len ∙ sym c.deepen_by.ensures.long) in
    subst (AreDeepened p (c.loop-k.k + 1)) (sym back)
    (deepened-more p c.loop-k.k old.items c.deref_mut.result.now new c.loop-k.invariant c.deref_mut.ensures.value c.deepen_by.ensures.long c.in_ok-deepen_by.ensures.each)

pub returns : goal.returns
returns c =
    let n = c.count-terms.ensures.count in
    let end : c.loop-k.k ≡ length (pipeline_of c.args.checked.now).graph = omega (arith, n, c.loop-k-test.false, c.loop-k.auto.k-end) in
    all-deep (pipeline_of c.args.checked.now) c.loop-k.k c.loop-k.depths.items end c.loop-k.invariant
