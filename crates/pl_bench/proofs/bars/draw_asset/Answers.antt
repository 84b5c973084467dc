use Rattle.std.proofs.Common.{◌≡◌, ◌+◌, ◌*◌, ◌++◌, ◌∙◌, ap, sym, rules, ℕ, map, arith, FitsSigned, w64}
use Rattle.std.specs.List.{range_with_len}
use Rattle.std.proofs.lemmas.Int.{ints, to_z-of_z}
use Rattle.std.proofs.lemmas.List.{append-nil}
use Rattle.pl_bench.specs.Draws.{behind, number_at}
use Rattle.pl_bench.specs.StatedWorld.{bar}
use Rattle.pl_bench.proofs.Prices.{prices-small}
use Rattle.pl_bench.proofs.Sequences.{behind-none, drawn-next}
use Rattle.pl_bench.proofs.BarRows.{first-price, later-price, later-volume, bar-made, asset-more}
use Rattle.pl_bench.proofs.bars.draw_asset.Goals as goal

pub loop-session-init : goal.loop-session-init
loop-session-init c =
    let state = drawn-next c.args.draws.now 0 c.args.draws.now c.draw.new.self (sym (behind-none c.args.draws.now)) c.draw.ensures.state in
    record {
      rows = sym (append-nil c.args.rows.now.items);
      price = first-price c.args.draws.now c.draw.result _ (c.draw.ensures.number ∙ ap (λ (s : ℕ). number_at s 80) state) (omega (arith, ints, c.from.ensures, c.draw.ensures.within));
      draws = state;
    }

pub next_price-price-requires-clause-price : goal.next_price-price-requires-clause-price
next_price-price-requires-clause-price c = rw c.loop-session.invariant.price (prices-small c.args.draws.now c.loop-session.session (omega arith))

pub loop-session-preserved : goal.loop-session-preserved
loop-session-preserved c =
    let s0 = c.args.draws.now in
    let s = c.loop-session.session in
    let at = drawn-next s0 (1 + 2 * s) c.loop-session.draws c.draw-in-loop-session.new.self c.loop-session.invariant.draws c.draw-in-loop-session.ensures.state in
    let e : 1 + 2 * s + 1 ≡ 2 + 2 * s = omega arith in
    let f : 2 + 2 * s + 1 ≡ 1 + 2 * (s + 1) = omega arith in
    let behind_change = at ∙ ap (behind s0) e in
    let behind_volume = drawn-next s0 (2 + 2 * s) c.draw-in-loop-session.new.self c.draw-in-loop-session-2.new.self behind_change c.draw-in-loop-session-2.ensures.state in
    let fr : FitsSigned w64 c.next_price-price.result = search rules in
    let changes = c.draw-in-loop-session.ensures.number ∙ ap (λ (n : ℕ). number_at n 401) at in
    let trades = c.draw-in-loop-session-2.ensures.number ∙ ap (λ (n : ℕ). number_at n 100000) behind_volume in
    let price = later-price s0 s c.draw-in-loop-session.result _ _ c.loop-session.invariant.price changes (to_z-of_z w64 _ fr ∙ c.next_price-price.ensures) in
    record {
      rows = asset-more s0 c.args.col s c.args.rows.now.items c.loop-session.rows.items _ _ c.loop-session.invariant.rows
          (bar-made s0 c.args.col s _ _ price (later-volume s0 s c.draw-in-loop-session-2.result _ trades (omega (arith, ints, c.from-in-loop-session.ensures, c.draw-in-loop-session-2.ensures.within))))
          c.in_ok-push.ensures.items;
      price = price;
      draws = behind_volume ∙ ap (behind s0) f;
    }

pub returns-clause-rows : goal.returns-clause-rows
returns-clause-rows c =
    let all : c.loop-session.session ≡ 600 = omega arith in
    c.loop-session.invariant.rows ∙ ap (λ (n : ℕ). c.args.rows.now.items ++ map (bar c.args.draws.now c.args.col) (range_with_len 0 n)) all
