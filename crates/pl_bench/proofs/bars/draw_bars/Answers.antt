use Rattle.std.proofs.Common.{◌≡◌, ◌+◌, ◌*◌, ◌∙◌, ap, sym, ℕ, arith}
use Rattle.pl_bench.specs.Draws.{behind}
use Rattle.pl_bench.proofs.Sequences.{behind-none, behind-more}
use Rattle.pl_bench.proofs.BarRows.{are_bars, bars-all, bars-more}
use Rattle.pl_bench.proofs.bars.draw_bars.Goals as goal

pub loop-col-init : goal.loop-col-init
loop-col-init c = record { rows = c.new-rows.ensures.items; draws = sym (behind-none c.args.draws.now) }

pub loop-col-preserved : goal.loop-col-preserved
loop-col-preserved c =
    let e : 1201 * c.loop-col.col + 1201 ≡ 1201 * (c.loop-col.col + 1) = omega arith in
    record {
      rows = bars-more c.args.draws.now c.loop-col.col c.loop-col.draws c.loop-col.rows.items _ c.loop-col.invariant.rows c.loop-col.invariant.draws c.in_ok-draw_asset.ensures.rows;
      draws = c.in_ok-draw_asset.ensures.draws ∙ ap (λ (s : ℕ). behind s 1201) c.loop-col.invariant.draws ∙ behind-more c.args.draws.now (1201 * c.loop-col.col) 1201 ∙ ap (behind c.args.draws.now) e;
    }

pub from_rows-requires : goal.from_rows-requires
from_rows-requires c =
    let all : c.loop-col.col ≡ 400 = omega arith in
    rw (c.loop-col.invariant.rows, all, bars-all c.args.draws.now) (are_bars c.args.draws.now)

pub returns-clause-bars : goal.returns-clause-bars
returns-clause-bars c =
    let all : c.loop-col.col ≡ 400 = omega arith in
    c.from_rows.ensures ∙ rw (c.loop-col.invariant.rows, all) (bars-all c.args.draws.now)

pub returns-clause-draws : goal.returns-clause-draws
returns-clause-draws c =
    let all : c.loop-col.col ≡ 400 = omega arith in
    c.loop-col.invariant.draws ∙ ap (λ (n : ℕ). behind c.args.draws.now (1201 * n)) all
