use Rattle.std.proofs.Common.{◌≡◌, ◌+◌, arith, length, get_or, pos, ap, ◌∙◌, sym, subst}
use Rattle.pl_terms.specs.Kinds.{kind_of}
use Rattle.pl_pointwise.specs.Operands.{IsOperation, AreOperands, operation}
use Rattle.pl_values.proofs.Rows.{point-asks, point-given}
use Rattle.pl_exec.specs.Tasks.{sids_in}
use Rattle.pl_exec.specs.ChunkInputs.{node_in, task_in}
use Rattle.pl_exec.proofs.Courses.{course_node}
use Rattle.pl_exec.proofs.points.point_lane.Goals as goal

pub pointwise-requires : goal.pointwise-requires
pointwise-requires c =
    let course = c.args.lane.now.course.now in
    let first = c.operand-first.result.now in
    let second = c.operand-second.result.now in
    let third = c.operand-third.result.now in
    let asks = point-asks (task_in course).world (task_in course).pipeline (sids_in (task_in course)) course.term.0 (node_in course) (course_node course c.requires.lane.course) (λ j. c.args.lane.now.i) (λ j. course.low + j)
    course.count first second third (record { first = c.operand-first.ensures; second = c.operand-second.ensures; third = c.operand-third.ensures }) c.requires.kind in
    record {
      kind = subst IsOperation (sym c.kind_of.ensures) asks.0;
      operands = subst (λ m. AreOperands (kind_of c.kind_of.result.now) first second third m) (sym c.requires.long) (subst (λ q. AreOperands q first second third course.count) (sym c.kind_of.ensures) asks.1);
    }

pub returns : goal.returns
returns c j h =
    let course = c.args.lane.now.course.now in
    let first = c.operand-first.result.now in
    let second = c.operand-second.result.now in
    let third = c.operand-third.result.now in
    let size : length c.pointwise.new.out ≡ c.args.lane.now.course.now.count = c.pointwise.ensures.length ∙ c.requires.long in
    point-given (task_in course).world (task_in course).pipeline (sids_in (task_in course)) course.term.0 (node_in course) (course_node course c.requires.lane.course) (λ j. c.args.lane.now.i) (λ j. course.low + j)
    course.count first second third (record { first = c.operand-first.ensures; second = c.operand-second.ensures; third = c.operand-third.ensures }) c.requires.kind j _ h
    (c.pointwise.ensures.values j (omega (arith, h, c.requires.long)) ∙ ap (λ q. operation q (get_or first j (pos 0)) (get_or second j (pos 0)) (get_or third j (pos 0))) c.kind_of.ensures)
    (c.pointwise.ensures.cells j (pos 0) (omega (arith, h, size)))
