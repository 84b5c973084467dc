use Rattle.std.proofs.Common.{◌≤◌, ◌*◌, ◌+◌, length, arith}
use Rattle.pl_exec.specs.Tasks.{assets_in, cell_in}
use Rattle.pl_exec.specs.ChunkInputs.{task_in}
use Rattle.pl_exec.proofs.Courses.{course_array, lane_room, none_laned, one_laned}
use Rattle.pl_exec.proofs.Spans.{all_written}
use Rattle.pl_exec.proofs.fill.fill_lanes.Goals as goal

pub loop-i-init : goal.loop-i-init
loop-i-init c = none_laned _ _ _ _

pub start_in-start-requires : goal.start_in-start-requires
start_in-start-requires c =
    let within : (c.loop-i.i + 1) * c.args.course.now.count ≤ length c.loop-i.own = lane_room c.loop-i.i (assets_in (task_in c.args.course.now)) c.args.course.now.count (length c.loop-i.own) c.loop-i-test.true (omega (arith, c.requires.room, c.loop-i.auto.own)) in
    omega (arith, within)

pub loop-i-preserved : goal.loop-i-preserved
loop-i-preserved c =
    let within : (c.loop-i.i + 1) * c.args.course.now.count ≤ length c.loop-i.own = lane_room c.loop-i.i (assets_in (task_in c.args.course.now)) c.args.course.now.count (length c.loop-i.own) c.loop-i-test.true (omega (arith, c.requires.room, c.loop-i.auto.own)) in
    rw c.start_in-start.ensures.value (one_laned (cell_in (task_in c.args.course.now) c.args.course.now.term.0) c.args.course.now.low c.args.course.now.count c.loop-i.i _ c.loop-i.own c.plain_lane.new.out within c.loop-i.invariant c.plain_lane.ensures)

pub returns : goal.returns
returns c =
    course_array c.args.course.now c.requires.course c.loop-i.own
    (all_written (cell_in (task_in c.args.course.now) c.args.course.now.term.0) c.args.course.now.low c.args.course.now.count (assets_in (task_in c.args.course.now)) c.loop-i.i c.args.course.now.count c.loop-i.own c.loop-i.invariant (omega (arith, c.loop-i-test.false)) (omega arith) (omega (arith, c.requires.room, c.loop-i.auto.own)))
