use Rattle.std.proofs.Common.{◌≡◌, ◌+◌, ◌*◌, ◌∙◌, ap, sym, ℕ, arith, map}
use Rattle.std.specs.List.{range_with_len}
use Rattle.std.proofs.lemmas.Int.{ints}
use Rattle.std.proofs.lemmas.Result.{IfOk-weaker}
use Rattle.pl_bench.specs.Draws.{behind}
use Rattle.pl_bench.specs.StatedWorld.{split, merger, dividend}
use Rattle.pl_bench.proofs.Sequences.{behind-none, behind-more}
use Rattle.pl_bench.proofs.AdjustRows.{rows-more, adjust-at, dividend-at, adjustments-are, right-over}
use Rattle.pl_bench.proofs.adjusts.draw_adjustments.Goals as goal

pub loop-turn-init : goal.loop-turn-init
loop-turn-init c =
    record {
      splits = c.new-splits.ensures.items;
      mergers = c.new-mergers.ensures.items;
      dividends = c.new-dividends.ensures.items;
      draws = sym (behind-none c.args.draws.now);
    }

pub loop-turn-preserved : goal.loop-turn-preserved
loop-turn-preserved c =
    let s = c.args.draws.now in
    let k = c.loop-turn.turn in
    let first = c.loop-turn.invariant.draws in
    let second = c.draw_adjust.ensures.draws ∙ ap (λ (n : ℕ). behind n 2) first in
    let third = c.draw_adjust-in-loop-turn.ensures.draws ∙ ap (λ (n : ℕ). behind n 2) second ∙ behind-more (behind s (7 * k)) 2 2 in
    let last = c.draw_dividend.ensures.draws ∙ ap (λ (n : ℕ). behind n 3) third ∙ behind-more (behind s (7 * k)) 4 3 ∙ behind-more s (7 * k) 7 in
    let e : 7 * k + 7 ≡ 7 * (k + 1) = omega arith in
    record {
      splits = rows-more (split s) k c.loop-turn.splits.items _ c.draw_adjust.result c.loop-turn.invariant.splits
          (adjust-at (behind s (7 * k)) c.loop-turn.draws (3 * k) _ _ _ c.draw_adjust.result c.draw_adjust.ensures.row first (omega (arith, ints, c.from-id.ensures))) c.in_ok-push.ensures.items;
      mergers = rows-more (merger s) k c.loop-turn.mergers.items _ c.draw_adjust-in-loop-turn.result c.loop-turn.invariant.mergers
          (adjust-at (behind (behind s (7 * k)) 2) c.draw_adjust.new.draws (3 * k + 1) _ _ _ c.draw_adjust-in-loop-turn.result c.draw_adjust-in-loop-turn.ensures.row second (omega (arith, ints, c.from-id.ensures))) c.in_ok-push-2.ensures.items;
      dividends = rows-more (dividend s) k c.loop-turn.dividends.items _ c.draw_dividend.result c.loop-turn.invariant.dividends
          (dividend-at (behind (behind s (7 * k)) 4) c.draw_adjust-in-loop-turn.new.draws (3 * k + 2) _ c.draw_dividend.result c.draw_dividend.ensures.row third (omega (arith, ints, c.from-id.ensures))) c.in_ok-push-3.ensures.items;
      draws = last ∙ ap (behind s) e;
    }

pub adjustments_of-requires : goal.adjustments_of-requires
adjustments_of-requires c =
    let all : c.loop-turn.turn ≡ 100 = omega arith in
    let s = c.args.draws.now in
    right-over s _ _ _
    (c.deref.ensures.value ∙ c.loop-turn.invariant.splits ∙ ap (λ (n : ℕ). map (split s) (range_with_len 0 n)) all)
    (c.deref-2.ensures.value ∙ c.loop-turn.invariant.mergers ∙ ap (λ (n : ℕ). map (merger s) (range_with_len 0 n)) all)
    (c.deref-3.ensures.value ∙ c.loop-turn.invariant.dividends ∙ ap (λ (n : ℕ). map (dividend s) (range_with_len 0 n)) all)

pub returns-clause-adjustments : goal.returns-clause-adjustments
returns-clause-adjustments c =
    let all : c.loop-turn.turn ≡ 100 = omega arith in
    let s = c.args.draws.now in
    IfOk-weaker c.adjustments_of.result _ _ (λ xs is. adjustments-are s _ _ _ xs c.args.assets.now
    (c.deref.ensures.value ∙ c.loop-turn.invariant.splits ∙ ap (λ (n : ℕ). map (split s) (range_with_len 0 n)) all)
    (c.deref-2.ensures.value ∙ c.loop-turn.invariant.mergers ∙ ap (λ (n : ℕ). map (merger s) (range_with_len 0 n)) all)
    (c.deref-3.ensures.value ∙ c.loop-turn.invariant.dividends ∙ ap (λ (n : ℕ). map (dividend s) (range_with_len 0 n)) all)
    c.requires.assets is) c.adjustments_of.ensures.adjustments
