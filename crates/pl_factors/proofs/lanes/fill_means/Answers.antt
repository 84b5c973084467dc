use Rattle.std.proofs.Common.{rules, ◌≡◌, ◌+◌, ◌-◌, ◌<◌, ◌≤◌, ◌∙◌, ap, sym, subst, arith, length, length-set, to_z, of_z, w64, All, FitsSigned}
use Rattle.std.proofs.lemmas.Int.{to_z-of_z}
use Rattle.pl_pipeline.specs.Formula.{formula, mean}
use Rattle.pl_spec.specs.Rounding.{IsCell}
use Rattle.pl_factors.specs.Kept.{sums}
use Rattle.pl_factors.proofs.Following.{all_given, cells_at, mean_at, none_given, one_given, span_after}
use Rattle.pl_factors.proofs.lanes.fill_means.Goals as goal

pub mean-requires-in-loop-k-clause-cells : goal.mean-requires-in-loop-k-clause-cells
mean-requires-in-loop-k-clause-cells c =
    let size = length-set c.args.out.now 0 (to_z w64 (of_z w64 c.mean.result)) in
    let room : c.loop-k.k - 1 + (c.args.size + 1) ≤ length c.args.a.now = omega (arith, size, c.loop-k-test.true, c.loop-k.auto.k, c.loop-k.auto.out, c.requires.long) in
    let here : c.loop-k.k ≡ c.loop-k.k - 1 + 1 = omega (arith, c.loop-k.auto.k) in
    subst (All IsCell) (sym (c.after.ensures ∙ span_after c.args.size c.loop-k.k c.loop-k.k here c.args.a.now _ (λ some. room) c.window_at-span.ensures)) (cells_at c.args.size c.loop-k.k c.args.a.now c.requires.cells)

pub loop-k-init : goal.loop-k-init
unfolding mean_at
loop-k-init c =
    let r : FitsSigned w64 c.mean.result = search rules in
    rw (to_z-of_z w64 _ r) (record {
      stands = c.sums_of-kept.ensures ∙ ap sums c.window_at-first.ensures;
      means = one_given (mean_at c.args.size c.args.a.now) 0 c.args.out.now c.mean.result (none_given _ c.args.out.now) c.requires.windows
          (c.mean.ensures.value ∙ ap mean c.window_at-first.ensures) c.mean.ensures.cell;
    })

pub loop-k-preserved : goal.loop-k-preserved
unfolding mean_at
loop-k-preserved c =
    let r : FitsSigned w64 c.mean-in-loop-k.result = search rules in
    let size = length-set c.args.out.now 0 (to_z w64 (of_z w64 c.mean.result)) in
    let room : c.loop-k.k - 1 + (c.args.size + 1) ≤ length c.args.a.now = omega (arith, size, c.loop-k-test.true, c.loop-k.auto.k, c.loop-k.auto.out, c.requires.long) in
    let inside : c.loop-k.k < length c.loop-k.out = omega (arith, size, c.loop-k-test.true, c.loop-k.auto.out) in
    let here : c.loop-k.k ≡ c.loop-k.k - 1 + 1 = omega (arith, c.loop-k.auto.k) in
    let later : c.loop-k.k + 1 - 1 ≡ c.loop-k.k - 1 + 1 = omega (arith, c.loop-k.auto.k) in
    rw (to_z-of_z w64 _ r) (record {
      stands = c.next_sums-kept.ensures ∙ ap sums (span_after c.args.size c.loop-k.k (c.loop-k.k + 1 - 1) later c.args.a.now _ (λ some. room) c.window_at-span.ensures);
      means = one_given (mean_at c.args.size c.args.a.now) c.loop-k.k c.loop-k.out c.mean-in-loop-k.result c.loop-k.invariant.means inside
          (c.mean-in-loop-k.ensures.value ∙ ap mean (c.after.ensures ∙ span_after c.args.size c.loop-k.k c.loop-k.k here c.args.a.now _ (λ some. room) c.window_at-span.ensures)) c.mean-in-loop-k.ensures.cell;
    })

pub returns : goal.returns
unfolding formula mean_at
returns c b d =
    let size = length-set c.args.out.now 0 (to_z w64 (of_z w64 c.mean.result)) in
    all_given (mean_at c.args.size c.args.a.now) (length c.args.out.now) c.loop-k.k c.loop-k.out (omega (arith, size, c.loop-k-test.false, c.loop-k.auto.out)) c.loop-k.invariant.means
