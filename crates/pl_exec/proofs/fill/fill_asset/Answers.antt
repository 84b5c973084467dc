use Rattle.std.proofs.Common.{◌+◌, ap, ◌∙◌, subst, arith}
use Rattle.pl_spec.specs.Limits.{saturated}
use Rattle.pl_exec.specs.ChunkInputs.{AreBars, buffer_at, node_in, one_col}
use Rattle.pl_exec.proofs.Courses.{count_of}
use Rattle.pl_exec.proofs.Stands.{counted_is}
use Rattle.pl_exec.proofs.fill.fill_asset.Goals as goal

pub begin_bars-requires-clause-run : goal.begin_bars-requires-clause-run
begin_bars-requires-clause-run g c = c.requires.run

pub begin_bars-requires-clause-lane : goal.begin_bars-requires-clause-lane
begin_bars-requires-clause-lane g c = c.requires.lane

pub begin_bars-requires-clause-array : goal.begin_bars-requires-clause-array
begin_bars-requires-clause-array g c = c.column_array-first_array.ensures ∙ ap (λ cols. buffer_at c.args.lane.now.course.now.chunk.now c.args.lane.now.course.now.term.0 (node_in c.args.lane.now.course.now) cols 0) c.one_of-cols.ensures

pub begin_bars-requires-clause-has : goal.begin_bars-requires-clause-has
begin_bars-requires-clause-has g c = c.requires.first

pub begin_bars-requires-2-clause-run : goal.begin_bars-requires-2-clause-run
begin_bars-requires-2-clause-run g c = c.requires.run

pub begin_bars-requires-2-clause-lane : goal.begin_bars-requires-2-clause-lane
begin_bars-requires-2-clause-lane g c = c.requires.lane

pub begin_bars-requires-2-clause-array : goal.begin_bars-requires-2-clause-array
begin_bars-requires-2-clause-array g c = c.column_array-second_array.ensures ∙ ap (λ cols. buffer_at c.args.lane.now.course.now.chunk.now c.args.lane.now.course.now.term.0 (node_in c.args.lane.now.course.now) cols 1) c.one_of-cols.ensures

pub begin_bars-requires-2-clause-has : goal.begin_bars-requires-2-clause-has
begin_bars-requires-2-clause-has g c = c.requires.second

pub begin_bars-requires-3-clause-run : goal.begin_bars-requires-3-clause-run
begin_bars-requires-3-clause-run g c = c.requires.run

pub begin_bars-requires-3-clause-lane : goal.begin_bars-requires-3-clause-lane
begin_bars-requires-3-clause-lane g c = c.requires.lane

pub begin_bars-requires-3-clause-array : goal.begin_bars-requires-3-clause-array
begin_bars-requires-3-clause-array g c = c.column_array-third_array.ensures ∙ ap (λ cols. buffer_at c.args.lane.now.course.now.chunk.now c.args.lane.now.course.now.term.0 (node_in c.args.lane.now.course.now) cols 2) c.one_of-cols.ensures

pub begin_bars-requires-3-clause-has : goal.begin_bars-requires-3-clause-has
begin_bars-requires-3-clause-has g c = c.requires.third

pub walk_bars-requires-clause-run : goal.walk_bars-requires-clause-run
walk_bars-requires-clause-run g c = c.requires.run

pub walk_bars-requires-clause-lane : goal.walk_bars-requires-clause-lane
walk_bars-requires-clause-lane g c = c.requires.lane

pub walk_bars-requires-clause-long : goal.walk_bars-requires-clause-long
walk_bars-requires-clause-long g c = c.requires.long

pub walk_bars-requires-clause-bars : goal.walk_bars-requires-clause-bars
walk_bars-requires-clause-bars g c = record { first = c.begin_bars.ensures.begins; second = c.begin_bars-2.ensures.begins; third = c.begin_bars-3.ensures.begins }

pub walk_bars-requires-clause-none : goal.walk_bars-requires-clause-none
walk_bars-requires-clause-none g c = omega (arith, c.begin_bars.ensures.none, c.begin_bars-2.ensures.none, c.begin_bars-3.ensures.none)

pub returns-clause-out : goal.returns-clause-out
returns-clause-out g c = c.walk_bars.ensures.out

pub returns-clause-cost : goal.returns-clause-cost
returns-clause-cost g c =
    let bars = subst (λ m. AreBars c.args.lane.now.course.now.chunk.now c.args.lane.now.course.now.term.0 (node_in c.args.lane.now.course.now) (one_col c.args.lane.now.course.now.chunk.now c.args.lane.now.i) m c.walk_bars.new.bars) (count_of c.args.lane.now.course.now c.requires.lane.course) c.walk_bars.ensures.bars in
    c.walk_bars.ensures.cost ∙ ap (λ m. c.args.steps.now + m) (counted_is c.args.lane.now.course.now.chunk.now c.args.lane.now.course.now.workspace.now c.args.lane.now.course.now.term.0 (node_in c.args.lane.now.course.now) c.requires.run (one_col c.args.lane.now.course.now.chunk.now c.args.lane.now.i) c.walk_bars.new.bars bars)

pub returns-clause-applied : goal.returns-clause-applied
returns-clause-applied g c =
    let bars = subst (λ m. AreBars c.args.lane.now.course.now.chunk.now c.args.lane.now.course.now.term.0 (node_in c.args.lane.now.course.now) (one_col c.args.lane.now.course.now.chunk.now c.args.lane.now.i) m c.walk_bars.new.bars) (count_of c.args.lane.now.course.now c.requires.lane.course) c.walk_bars.ensures.bars in
    c.applied.ensures ∙ ap saturated (counted_is c.args.lane.now.course.now.chunk.now c.args.lane.now.course.now.workspace.now c.args.lane.now.course.now.term.0 (node_in c.args.lane.now.course.now) c.requires.run (one_col c.args.lane.now.course.now.chunk.now c.args.lane.now.i) c.walk_bars.new.bars bars)
