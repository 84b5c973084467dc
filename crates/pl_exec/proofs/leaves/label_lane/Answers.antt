use Rattle.std.proofs.Common.{rules, ◌<◌, ◌∙◌, arith, ap, sym, w32, w64, FitsSigned}
use Rattle.std.proofs.lemmas.Int.{to_z-of_z}
use Rattle.pl_values.specs.Families.{label_code}
use Rattle.pl_values.proofs.Rows.{label-given, label-known}
use Rattle.pl_values.proofs.Written.{one_given}
use Rattle.pl_exec.specs.ChunkInputs.{IsGivenOn, session_in}
use Rattle.pl_exec.proofs.Courses.{course_node, course_session}
use Rattle.pl_exec.proofs.Givens.{label_here}
use Rattle.pl_exec.proofs.leaves.label_lane.Goals as goal

pub label_name-name-requires : goal.label_name-name-requires
label_name-name-requires c = label-known _ _ _ (course_node c.args.lane.now.course.now c.requires.lane.course) c.args.name c.requires.kind

pub loop-j-preserved : goal.loop-j-preserved
loop-j-preserved c =
    let d : FitsSigned w32 c.day-day.result = search rules in
    let v : FitsSigned w64 c.label_value.result = search rules in
    let value = simp to_z-of_z at c.label_value.ensures.value in
    let here : c.loop-j.j < c.args.lane.now.course.now.count = omega (arith, c.loop-j-test.true, c.loop-j.auto.out, c.requires.long) in
    let term_session = course_session c.args.lane.now.course.now c.requires.lane.course c.loop-j.j here in
    let said = label_here (session_in c.args.lane.now.course.now c.loop-j.j) term_session c.args.lane.now.i c.label_name-name.result.now c.day-day.result c.requires.lane.asset c.day-day.ensures.exact in
    rw (to_z-of_z w64 _ v) (one_given (λ k x. IsGivenOn c.args.lane.now.course.now c.args.lane.now.i k x) c.loop-j.j c.loop-j.out c.label_value.result c.loop-j.invariant (omega (arith, c.loop-j-test.true))
    (label-given _ _ _ _ _ (course_node c.args.lane.now.course.now c.requires.lane.course) c.args.lane.now.i _ _ c.args.name c.label_name-name.result.now c.requires.kind c.label_name-name.ensures
    (value ∙ ap (label_code c.args.lane.now.course.now.chunk.now.world.labels.now.texts) (sym said)) c.label_value.ensures.cell))

pub returns : goal.returns
returns c j h = c.loop-j.invariant j (omega (arith, h, c.loop-j-test.false, c.loop-j.auto.out, c.requires.long))
