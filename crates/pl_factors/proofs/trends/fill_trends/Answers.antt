use Rattle.std.proofs.Common.{rules, ◌≡◌, ◌+◌, ◌-◌, ◌<◌, ◌≤◌, ◌∙◌, ap, sym, arith, length, length-set, to_z, of_z, w64, FitsSigned}
use Rattle.std.proofs.lemmas.Int.{to_z-of_z}
use Rattle.pl_pipeline.specs.Formula.{trend_sums}
use Rattle.pl_terms.specs.Kinds.{kind_of}
use Rattle.pl_factors.specs.Lanes.{window_at}
use Rattle.pl_factors.specs.Trends.{trend_at}
use Rattle.pl_factors.proofs.Following.{all_given, none_given, one_given, span_after, span_before}
use Rattle.pl_factors.proofs.Trending.{trend_here}
use Rattle.pl_factors.proofs.trends.fill_trends.Goals as goal

pub loop-k-init : goal.loop-k-init
loop-k-init c =
    let r : FitsSigned w64 c.trend.result = search rules in
    let kind = kind_of c.args.kind.now in
    let first : c.of_places-sums.result ≡ trend_sums (window_at c.args.size 0 c.args.a.now) = c.of_places-sums.ensures.value ∙ ap trend_sums c.window_at-first.ensures in
    rw (to_z-of_z w64 _ r) (record {
      sums = first;
      small = c.of_places-sums.ensures.small;
      values = one_given (trend_at kind c.args.size c.args.a.now) 0 c.args.out.now c.trend.result (none_given _ c.args.out.now) c.requires.windows
          (trend_here kind c.args.size 0 c.args.a.now _ _ _ c.trend.ensures.value first c.window_at-first.ensures) c.trend.ensures.cell;
    })

pub slide_places-requires-clause-stands : goal.slide_places-requires-clause-stands
slide_places-requires-clause-stands c =
    let size = length-set c.args.out.now 0 (to_z w64 (of_z w64 c.trend.result)) in
    let here : c.loop-k.k ≡ c.loop-k.k - 1 + 1 = omega (arith, c.loop-k.auto.k) in
    let room : c.loop-k.k - 1 + (c.args.size + 1) ≤ length c.args.a.now = omega (arith, size, c.loop-k-test.true, c.loop-k.auto.k, c.loop-k.auto.out, c.requires.long) in
    c.loop-k.invariant.sums ∙ sym (ap trend_sums (span_before c.args.size c.loop-k.k c.loop-k.k here c.args.a.now _ (λ some. room) c.window_at.ensures))

pub loop-k-preserved : goal.loop-k-preserved
loop-k-preserved c =
    let r : FitsSigned w64 c.trend-in-loop-k.result = search rules in
    let kind = kind_of c.args.kind.now in
    let size = length-set c.args.out.now 0 (to_z w64 (of_z w64 c.trend.result)) in
    let here : c.loop-k.k ≡ c.loop-k.k - 1 + 1 = omega (arith, c.loop-k.auto.k) in
    let later : c.loop-k.k + 1 - 1 ≡ c.loop-k.k = omega arith in
    let inside : c.loop-k.k < length c.loop-k.out = omega (arith, size, c.loop-k-test.true, c.loop-k.auto.out) in
    let room : c.loop-k.k - 1 + (c.args.size + 1) ≤ length c.args.a.now = omega (arith, size, c.loop-k-test.true, c.loop-k.auto.k, c.loop-k.auto.out, c.requires.long) in
    let next : c.slide_places.new.self ≡ trend_sums (window_at c.args.size c.loop-k.k c.args.a.now) =
    c.slide_places.ensures.value ∙ ap trend_sums (span_after c.args.size c.loop-k.k c.loop-k.k here c.args.a.now _ (λ some. room) c.window_at.ensures) in
    rw (to_z-of_z w64 _ r) (record {
      sums = next ∙ ap (λ j. trend_sums (window_at c.args.size j c.args.a.now)) (sym later);
      small = c.slide_places.ensures.small;
      values = one_given (trend_at kind c.args.size c.args.a.now) c.loop-k.k c.loop-k.out c.trend-in-loop-k.result c.loop-k.invariant.values inside
          (trend_here kind c.args.size c.loop-k.k c.args.a.now _ _ _ c.trend-in-loop-k.ensures.value next c.window_at-in-loop-k.ensures) c.trend-in-loop-k.ensures.cell;
    })

pub returns : goal.returns
returns c =
    let size = length-set c.args.out.now 0 (to_z w64 (of_z w64 c.trend.result)) in
    all_given (trend_at (kind_of c.args.kind.now) c.args.size c.args.a.now) (length c.args.out.now) c.loop-k.k c.loop-k.out
    (omega (arith, size, c.loop-k-test.false, c.loop-k.auto.out)) c.loop-k.invariant.values
