use Rattle.std.proofs.Common.{rules, ◌≡◌, ◌+◌, ◌-◌, ◌<◌, ◌≤◌, ◌∙◌, ap, sym, arith, length, length-set, to_z, of_z, w64, FitsSigned}
use Rattle.std.proofs.lemmas.Int.{to_z-of_z}
use Rattle.pl_terms.specs.Kinds.{kind_of}
use Rattle.pl_factors.specs.Regressions.{sums_at, regression_at}
use Rattle.pl_factors.proofs.Following.{all_given, none_given, one_given, span_after, span_before}
use Rattle.pl_factors.proofs.Regressing.{sums_here, regression_here}
use Rattle.pl_factors.proofs.regressions.fill_regressions.Goals as goal

pub loop-k-init : goal.loop-k-init
loop-k-init c =
    let r : FitsSigned w64 c.regression.result = search rules in
    let kind = kind_of c.args.kind.now in
    let first : c.of_windows-sums.result ≡ sums_at c.args.size c.args.a.now c.args.b.now 0 =
    c.of_windows-sums.ensures.value ∙ sums_here c.args.size 0 c.args.a.now c.args.b.now _ _ c.window_at.ensures c.window_at-2.ensures in
    rw (to_z-of_z w64 _ r) (record {
      sums = first;
      small = c.of_windows-sums.ensures.small;
      values = one_given (regression_at kind c.args.size c.args.a.now c.args.b.now) 0 c.args.out.now c.regression.result (none_given _ c.args.out.now) c.requires.windows
          (regression_here kind c.args.size 0 c.args.a.now c.args.b.now _ _ c.regression.ensures.value first) c.regression.ensures.cell;
    })

pub slide-requires-clause-stands : goal.slide-requires-clause-stands
slide-requires-clause-stands c =
    let size = length-set c.args.out.now 0 (to_z w64 (of_z w64 c.regression.result)) in
    let here : c.loop-k.k ≡ c.loop-k.k - 1 + 1 = omega (arith, c.loop-k.auto.k) in
    let first : c.loop-k.k - 1 + (c.args.size + 1) ≤ length c.args.a.now = omega (arith, size, c.loop-k-test.true, c.loop-k.auto.k, c.loop-k.auto.out, c.requires.long) in
    let second : c.loop-k.k - 1 + (c.args.size + 1) ≤ length c.args.b.now = omega (arith, size, c.loop-k-test.true, c.loop-k.auto.k, c.loop-k.auto.out, c.requires.other_long) in
    c.loop-k.invariant.sums
    ∙ sym (sums_here c.args.size (c.loop-k.k - 1) c.args.a.now c.args.b.now _ _
    (span_before c.args.size c.loop-k.k c.loop-k.k here c.args.b.now _ (λ some. second) c.window_at-b_span.ensures)
    (span_before c.args.size c.loop-k.k c.loop-k.k here c.args.a.now _ (λ some. first) c.window_at-a_span.ensures))

pub loop-k-preserved : goal.loop-k-preserved
loop-k-preserved c =
    let r : FitsSigned w64 c.regression-in-loop-k.result = search rules in
    let kind = kind_of c.args.kind.now in
    let size = length-set c.args.out.now 0 (to_z w64 (of_z w64 c.regression.result)) in
    let here : c.loop-k.k ≡ c.loop-k.k - 1 + 1 = omega (arith, c.loop-k.auto.k) in
    let later : c.loop-k.k + 1 - 1 ≡ c.loop-k.k = omega arith in
    let inside : c.loop-k.k < length c.loop-k.out = omega (arith, size, c.loop-k-test.true, c.loop-k.auto.out) in
    let first : c.loop-k.k - 1 + (c.args.size + 1) ≤ length c.args.a.now = omega (arith, size, c.loop-k-test.true, c.loop-k.auto.k, c.loop-k.auto.out, c.requires.long) in
    let second : c.loop-k.k - 1 + (c.args.size + 1) ≤ length c.args.b.now = omega (arith, size, c.loop-k-test.true, c.loop-k.auto.k, c.loop-k.auto.out, c.requires.other_long) in
    let next : c.slide.new.self ≡ sums_at c.args.size c.args.a.now c.args.b.now c.loop-k.k =
    c.slide.ensures.value
    ∙ sums_here c.args.size c.loop-k.k c.args.a.now c.args.b.now _ _
    (span_after c.args.size c.loop-k.k c.loop-k.k here c.args.b.now _ (λ some. second) c.window_at-b_span.ensures)
    (span_after c.args.size c.loop-k.k c.loop-k.k here c.args.a.now _ (λ some. first) c.window_at-a_span.ensures) in
    rw (to_z-of_z w64 _ r) (record {
      sums = next ∙ ap (sums_at c.args.size c.args.a.now c.args.b.now) (sym later);
      small = c.slide.ensures.small;
      values = one_given (regression_at kind c.args.size c.args.a.now c.args.b.now) c.loop-k.k c.loop-k.out c.regression-in-loop-k.result c.loop-k.invariant.values inside
          (regression_here kind c.args.size c.loop-k.k c.args.a.now c.args.b.now _ _ c.regression-in-loop-k.ensures.value next) c.regression-in-loop-k.ensures.cell;
    })

pub returns : goal.returns
returns c =
    let size = length-set c.args.out.now 0 (to_z w64 (of_z w64 c.regression.result)) in
    all_given (regression_at (kind_of c.args.kind.now) c.args.size c.args.a.now c.args.b.now) (length c.args.out.now) c.loop-k.k c.loop-k.out
    (omega (arith, size, c.loop-k-test.false, c.loop-k.auto.out)) c.loop-k.invariant.values
