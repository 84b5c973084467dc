use Rattle.std.proofs.Common.{◌≡◌, ◌∙◌, ap, sym, arith, ℕ, map, FitsSigned, w32, rules}
use Rattle.std.specs.List.{range_with_len}
use Rattle.std.proofs.lemmas.Int.{to_z-of_z}
use Rattle.pl_spec.specs.Parts.{ColumnLabel}
use Rattle.pl_assets.specs.Labels.{table_of, texts_of, with_label}
use Rattle.pl_assets.proofs.LabelTables.{table_more}
use Rattle.pl_bench.specs.Draws.{next_state, number_at}
use Rattle.pl_bench.specs.StatedWorld.{sector}
use Rattle.pl_bench.proofs.Assets.{has-sid}
use Rattle.pl_bench.proofs.Grids.{map-more}
use Rattle.pl_bench.proofs.Sequences.{behind-none, behind-next}
use Rattle.pl_bench.proofs.SectorRows.{none-yet, sectors-all, sector-row, sector-follows}
use Rattle.pl_bench.proofs.sectors.draw_sectors.Goals as goal

pub loop-col-init : goal.loop-col-init
loop-col-init c = record { labels = c.none-labels.ensures ∙ none-yet; draws = sym (behind-none c.args.draws.now) }

pub add-requires-clause-asset : goal.add-requires-clause-asset
add-requires-clause-asset c = rw c.requires.assets (has-sid c.loop-col.col (omega arith))

pub add-requires-clause-row : goal.add-requires-clause-row
add-requires-clause-row c =
    let fits : FitsSigned w32 c.args.start = search rules in
    let state = c.draw.ensures.state ∙ ap next_state c.loop-col.invariant.draws ∙ sym (behind-next c.args.draws.now c.loop-col.col) in
    let digit = c.draw.ensures.number ∙ ap (λ (s : ℕ). number_at s 10) state in
    let row = sector-row c.args.draws.now c.loop-col.col c.draw.result _ (omega arith) (to_z-of_z w32 _ fits ∙ c.requires.start) digit in
    rw (c.loop-col.invariant.labels, c.requires.assets, row) (sector-follows c.args.draws.now c.loop-col.col (omega arith))

pub loop-col-preserved : goal.loop-col-preserved
loop-col-preserved c =
    let fits : FitsSigned w32 c.args.start = search rules in
    let state = c.draw.ensures.state ∙ ap next_state c.loop-col.invariant.draws ∙ sym (behind-next c.args.draws.now c.loop-col.col) in
    let digit = c.draw.ensures.number ∙ ap (λ (s : ℕ). number_at s 10) state in
    let row = sector-row c.args.draws.now c.loop-col.col c.draw.result _ (omega arith) (to_z-of_z w32 _ fits ∙ c.requires.start) digit in
    let before = map (sector c.args.draws.now) (range_with_len 0 c.loop-col.col) in
    let rows = rw (c.loop-col.invariant.labels, c.requires.assets, row) at c.in_ok-add.ensures.row in
    let texts = rw c.loop-col.invariant.labels at c.in_ok-add.ensures.texts in
    record {
      labels = table_more before (sector c.args.draws.now c.loop-col.col) _ rows (texts ∙ ap (with_label (texts_of before)) (ap (λ (r : ColumnLabel). r.text) row))
          ∙ ap table_of (sym (map-more (sector c.args.draws.now) c.loop-col.col));
      draws = state;
    }

pub returns-clause-labels : goal.returns-clause-labels
returns-clause-labels c =
    let all : c.loop-col.col ≡ 400 = omega arith in
    rw (c.loop-col.invariant.labels, all) (ap table_of (sectors-all c.args.draws.now))
