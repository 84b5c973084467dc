use Rattle.std.proofs.Common.{rules}
use Rattle.pl_adjust.proofs.Kept.{cols_rise, start_first, events_run, days_run, cells_at}
use Rattle.pl_adjust.proofs.columns.of_col.Goals as goal

pub slice_bounds-result-count : goal.slice_bounds-result-count
slice_bounds-result-count c =
    start_first c.args.cols.now c.args.adjusts.now c.requires.kept c.args.col _ _
    c.start_of-from.ensures.1 c.end_of-to.ensures.1 c.start_of-from.ensures.0 c.end_of-to.ensures.0

pub slice_bounds-result-start : goal.slice_bounds-result-start
slice_bounds-result-start c =
    let first = slice_bounds-result-count c in
    search rules

pub returns-clause-events : goal.returns-clause-events
returns-clause-events c =
    events_run c.args.cols.now c.args.adjusts.now c.requires.kept c.args.col _ _
    c.start_of-from.ensures.1 c.end_of-to.ensures.1 c.start_of-from.ensures.0 c.end_of-to.ensures.0

pub returns-clause-cells : goal.returns-clause-cells
returns-clause-cells c = rw (returns-clause-events c) (cells_at _ c.args.col c.requires.kept.puts)

pub returns-clause-in_order : goal.returns-clause-in_order
returns-clause-in_order c =
    days_run c.args.cols.now c.args.adjusts.now c.requires.kept c.args.col _ _
    c.start_of-from.ensures.1 c.end_of-to.ensures.1 c.start_of-from.ensures.0 c.end_of-to.ensures.0

pub start_of-from-requires-clause-rise : goal.start_of-from-requires-clause-rise
start_of-from-requires-clause-rise c = cols_rise c.args.cols.now c.args.adjusts.now c.requires.kept

pub end_of-to-requires-clause-rise : goal.end_of-to-requires-clause-rise
end_of-to-requires-clause-rise c = cols_rise c.args.cols.now c.args.adjusts.now c.requires.kept
