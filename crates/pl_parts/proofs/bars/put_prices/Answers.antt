use Rattle.std.proofs.Common.{◌≡◌, ◌++◌, rules, pos, slice_index_or}
use Rattle.pl_spec.specs.Decimals.{cell_text}
use Rattle.pl_spec.specs.Rounding.{IsCell}
use Rattle.pl_parts.specs.Texts.{behind_comma}
use Rattle.pl_parts.proofs.Fields.{joined, on-ok-joined, cell-put, on-ok-cell}
use Rattle.pl_parts.proofs.bars.put_prices.Goals as goal

pub returns : goal.returns
returns c = λ assets.
    let a : IsCell (slice_index_or c.args.bar.cells 0 (pos 0)) = search rules in
    let b : IsCell (slice_index_or c.args.bar.cells 1 (pos 0)) = search rules in
    let d : IsCell (slice_index_or c.args.bar.cells 2 (pos 0)) = search rules in
    let e : IsCell (slice_index_or c.args.bar.cells 3 (pos 0)) = search rules in
    let p0 : c.put_further_cell.new.out.items ≡ c.args.out.now.items ++ behind_comma (cell_text (slice_index_or c.args.bar.cells 0 (pos 0))) = cell-put (slice_index_or c.args.bar.cells 0 (pos 0)) c.args.out.now.items c.put_further_cell.new.out.items a c.in_ok-put_further_cell.ensures in
    let p1 : c.put_further_cell-2.new.out.items ≡ c.put_further_cell.new.out.items ++ behind_comma (cell_text (slice_index_or c.args.bar.cells 1 (pos 0))) = cell-put (slice_index_or c.args.bar.cells 1 (pos 0)) c.put_further_cell.new.out.items c.put_further_cell-2.new.out.items b c.in_ok-put_further_cell-2.ensures in
    let p2 : c.put_further_cell-3.new.out.items ≡ c.put_further_cell-2.new.out.items ++ behind_comma (cell_text (slice_index_or c.args.bar.cells 2 (pos 0))) = cell-put (slice_index_or c.args.bar.cells 2 (pos 0)) c.put_further_cell-2.new.out.items c.put_further_cell-3.new.out.items d c.in_ok-put_further_cell-3.ensures in
    let two : c.put_further_cell-2.new.out.items ≡ c.args.out.now.items ++ (behind_comma (cell_text (slice_index_or c.args.bar.cells 0 (pos 0))) ++ behind_comma (cell_text (slice_index_or c.args.bar.cells 1 (pos 0)))) = joined c.args.out.now.items c.put_further_cell.new.out.items c.put_further_cell-2.new.out.items (behind_comma (cell_text (slice_index_or c.args.bar.cells 0 (pos 0)))) (behind_comma (cell_text (slice_index_or c.args.bar.cells 1 (pos 0)))) p0 p1 in
    let three : c.put_further_cell-3.new.out.items ≡ c.args.out.now.items ++ (behind_comma (cell_text (slice_index_or c.args.bar.cells 0 (pos 0))) ++ behind_comma (cell_text (slice_index_or c.args.bar.cells 1 (pos 0))) ++ behind_comma (cell_text (slice_index_or c.args.bar.cells 2 (pos 0)))) = joined c.args.out.now.items c.put_further_cell-2.new.out.items c.put_further_cell-3.new.out.items (behind_comma (cell_text (slice_index_or c.args.bar.cells 0 (pos 0))) ++ behind_comma (cell_text (slice_index_or c.args.bar.cells 1 (pos 0)))) (behind_comma (cell_text (slice_index_or c.args.bar.cells 2 (pos 0)))) two p2 in
    on-ok-joined c.put_further_cell-4.result c.args.out.now.items c.put_further_cell-3.new.out.items c.put_further_cell-4.new.out.items (behind_comma (cell_text (slice_index_or c.args.bar.cells 0 (pos 0))) ++ behind_comma (cell_text (slice_index_or c.args.bar.cells 1 (pos 0))) ++ behind_comma (cell_text (slice_index_or c.args.bar.cells 2 (pos 0)))) (behind_comma (cell_text (slice_index_or c.args.bar.cells 3 (pos 0)))) three
    (on-ok-cell c.put_further_cell-4.result (slice_index_or c.args.bar.cells 3 (pos 0)) c.put_further_cell-3.new.out.items c.put_further_cell-4.new.out.items e c.put_further_cell-4.ensures)
