use Rattle.std.proofs.Common.{◌+◌, ◌<◌, ◌∙◌, arith, sym, length, pos}
use Rattle.std.proofs.lemmas.Option.{slice_get-get_or}
use Rattle.pl_values.proofs.Rows.{number-given, number-known}
use Rattle.pl_exec.specs.ChunkInputs.{session_in}
use Rattle.pl_exec.proofs.Courses.{course_node, course_session}
use Rattle.pl_exec.proofs.Givens.{number_here}
use Rattle.pl_exec.proofs.leaves.number_lane.Goals as goal

pub label_name-name-requires : goal.label_name-name-requires
label_name-name-requires c = number-known _ _ _ (course_node c.args.lane.now.course.now c.requires.lane.course) c.args.figure c.args.name c.requires.kind

pub returns : goal.returns
returns c j h =
    let days = c.args.lane.now.course.now.chunk.now.world.sessions.now in
    let room : j < length c.args.out.now = omega (arith, h, c.requires.long) in
    let term_session = course_session c.args.lane.now.course.now c.requires.lane.course j h in
    let is = c.requires.lane.course in
    let end = is.end in
    let to = is.chunk.task.to in
    let within = is.chunk.task.plan.within in
    let dated = slice_get-get_or days (c.args.lane.now.course.now.low + j) (pos 0) (omega (arith, h, end, to, within)) in
    let said = number_here (session_in c.args.lane.now.course.now j) term_session c.args.figure c.args.lane.now.i c.label_name-name.result.now _ c.requires.lane.asset dated in
    number-given _ _ _ _ _ (course_node c.args.lane.now.course.now c.requires.lane.course) c.args.lane.now.i _ _ c.args.figure c.args.name c.label_name-name.result.now c.requires.kind c.label_name-name.ensures
    (c.fill_under.ensures.values j room ∙ sym said) (c.fill_under.ensures.cells j room)
