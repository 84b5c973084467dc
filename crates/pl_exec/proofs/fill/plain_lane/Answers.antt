use Rattle.std.proofs.Common.{◌∙◌}
use Rattle.pl_exec.specs.Tasks.{graph_in}
use Rattle.pl_exec.specs.ChunkInputs.{node_in, task_in}
use Rattle.pl_exec.proofs.NewColumns.{no_bars}
use Rattle.pl_exec.proofs.Stretches.{kept_lane}
use Rattle.pl_exec.proofs.fill.plain_lane.Goals as goal

pub given_lane-requires-clause-none : goal.given_lane-requires-clause-none
given_lane-requires-clause-none c =
    let few = c.requires.lane.course.chunk.task.checked.graph.few c.args.lane.now.course.now.term.0 (node_in c.args.lane.now.course.now) c.requires.lane.course.node in
    no_bars (graph_in (task_in c.args.lane.now.course.now)) c.args.lane.now.course.now.term.0 (node_in c.args.lane.now.course.now) c.requires.lane.course.node few c.requires.none

pub returns : goal.returns
returns c =
    kept_lane c.args.lane.now.course.now c.requires.lane.course c.args.lane.now.i c.given_lane.new.out c.keep_lane.new.out c.given_lane.ensures c.keep_lane.ensures.each (c.keep_lane.ensures.long ∙ c.given_lane.auto.out ∙ c.requires.long)
