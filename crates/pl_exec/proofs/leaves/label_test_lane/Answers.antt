use Rattle.std.proofs.Common.{◌≡◌, true, ◌+◌, ◌∙◌, arith, ap, sym, subst, get_or, pos, refl}
use Rattle.pl_pipeline.specs.Kind.{Kind}
use Rattle.pl_values.specs.Families.{code_flag, is_label_test}
use Rattle.pl_values.proofs.Rows.{code-read, codes-long, test-given}
use Rattle.pl_exec.specs.Tasks.{sids_in}
use Rattle.pl_exec.specs.ChunkInputs.{node_in, task_in}
use Rattle.pl_exec.proofs.Courses.{course_node}
use Rattle.pl_exec.proofs.leaves.label_test_lane.Goals as goal

pub label_test_values-requires : goal.label_test_values-requires
label_test_values-requires c =
    let course = c.args.lane.now.course.now in
    let texts = c.requires.lane.course.chunk.task.texts in
    let long = codes-long (task_in course).world (task_in course).pipeline (sids_in (task_in course)) course.term.0 (node_in course) (course_node course c.requires.lane.course) (λ j. c.args.lane.now.i) (λ j. course.low + j)
    course.count c.operand-codes.result.now c.operand-codes.ensures c.requires.kind texts _ refl in
    record {
      kind = subst (λ (k : Kind). is_label_test k ≡ true) (sym c.kind_of.ensures) c.requires.kind;
      codes = λ j h. code-read (task_in course).world (task_in course).pipeline (sids_in (task_in course)) course.term.0 (node_in course) (course_node course c.requires.lane.course) (λ j. c.args.lane.now.i) (λ j. course.low + j)
          course.count c.operand-codes.result.now c.operand-codes.ensures c.requires.kind texts _ refl j (omega (arith, h, long));
      many = long ∙ sym c.requires.long;
    }

pub returns : goal.returns
returns c j h =
    let course = c.args.lane.now.course.now in
    let codes = c.operand-codes.result.now in
    test-given (task_in course).world (task_in course).pipeline (sids_in (task_in course)) course.term.0 (node_in course) (course_node course c.requires.lane.course) (λ j. c.args.lane.now.i) (λ j. course.low + j)
    course.count codes c.operand-codes.ensures c.requires.kind c.requires.lane.course.chunk.task.texts _ refl j _ h
    (c.label_test_values.ensures.each j (omega (arith, h, c.requires.long)) ∙ ap (λ (k : Kind). code_flag course.chunk.now.world.labels.now.texts k (get_or codes j (pos 0))) c.kind_of.ensures)
