use Rattle.std.proofs.Common.{◌≤◌, length, arith}
use Rattle.pl_table.specs.Outcomes.{pipeline_in}
use Rattle.pl_terms.proofs.Graphs.{columns-long, column-output}
use Rattle.pl_table.proofs.Tiles as tiles
use Rattle.pl_table.proofs.tile.fill_place.Goals as goal

pub loop-column-init : goal.loop-column-init
loop-column-init c = tiles.marks-begun c.args.outcome.now c.args.first c.args.place c.args.tile.now c.mark_rows.new.tile c.mark_rows.ensures.marks

pub copy_cells-requires-clause-column : goal.copy_cells-requires-clause-column
copy_cells-requires-clause-column c = omega (arith, c.columns-column-end.ensures, columns-long c.args.outcome.now.asked.checked.now.columns)

pub loop-column-preserved : goal.loop-column-preserved
loop-column-preserved c =
    tiles.column-begun c.args.outcome.now c.args.first c.args.place c.loop-column.column c.args.tile.now c.loop-column.tile c.copy_cells.new.tile c.loop-column.invariant c.requires.place
    (omega (arith, c.columns-column-end.ensures, columns-long c.args.outcome.now.asked.checked.now.columns)) c.copy_cells.ensures

pub returns-after-loop-column-clause-rows : goal.returns-after-loop-column-clause-rows
returns-after-loop-column-clause-rows c =
    let o = c.args.outcome.now in
    let all : length (pipeline_in o).columns ≤ c.loop-column.column = omega (arith, c.columns-column-end.ensures, columns-long o.asked.checked.now.columns) in
    tiles.rows-of-place o c.args.first c.args.place c.loop-column.column c.args.tile.now c.loop-column.tile c.loop-column.invariant all
    (λ k s d at early late. tiles.cell-within o c.requires.outcome d.term (column-output (pipeline_in o) k d at) c.args.place c.requires.place s (omega (arith, c.requires.first.from)) late)

pub returns-after-loop-column-clause-others : goal.returns-after-loop-column-clause-others
returns-after-loop-column-clause-others c = c.loop-column.invariant.others

pub returns-else-mark_rows-clause-rows : goal.returns-else-mark_rows-clause-rows
returns-else-mark_rows-clause-rows c =
    let o = c.args.outcome.now in
    tiles.no-rows-of-place o c.args.first c.args.place c.args.tile.now c.mark_rows.new.tile (tiles.marks-begun o c.args.first c.args.place c.args.tile.now c.mark_rows.new.tile c.mark_rows.ensures.marks) (c.mark_rows.ensures.none c.if-mark_rows.false)

pub returns-else-mark_rows-clause-others : goal.returns-else-mark_rows-clause-others
returns-else-mark_rows-clause-others c =
    let o = c.args.outcome.now in
    (tiles.marks-begun o c.args.first c.args.place c.args.tile.now c.mark_rows.new.tile c.mark_rows.ensures.marks).others
