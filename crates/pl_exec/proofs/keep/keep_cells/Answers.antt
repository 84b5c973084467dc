use Rattle.std.proofs.Common.{rules, ◌≡◌, ◌+◌, get_or, get_or-set_other, pos, ap, ◌∙◌, arith, w64, FitsSigned}
use Rattle.std.proofs.lemmas.Int.{to_z-of_z}
use Rattle.pl_values.specs.Arrays.{chosen, is_kept}
use Rattle.pl_values.proofs.Written.{one_given}
use Rattle.pl_exec.specs.Tasks.{sids_in}
use Rattle.pl_exec.specs.ChunkInputs.{node_in, task_in}
use Rattle.pl_exec.proofs.Courses.{kept_on}
use Rattle.pl_exec.proofs.keep.keep_cells.Goals as goal

pub loop-j-preserved : goal.loop-j-preserved
loop-j-preserved c =
    let course = c.args.lane.now.course.now in
    let fits : FitsSigned w64 c.choose.result = search rules in
    let cell : FitsSigned w64 (get_or c.loop-j.out c.loop-j.j (pos 0)) = search rules in
    let empty : FitsSigned w64 c.args.lane.now.course.now.empty = search rules in
    let picked = simp to_z-of_z at c.choose.ensures in
    let kept = kept_on c.args.lane.now.course.now c.on_session.result c.args.lane.now.i c.loop-j.j c.is_kept-keep.result c.on_session.ensures.is c.is_kept-keep.ensures in
    rw (to_z-of_z w64 _ fits) (record {
      done = one_given (λ n x. x ≡ chosen (is_kept (task_in course).world (task_in course).pipeline (sids_in (task_in course)) (node_in course).mask c.args.lane.now.i (course.low + n)) (get_or c.args.out.now n (pos 0)) course.empty) c.loop-j.j c.loop-j.out c.choose.result
          c.loop-j.invariant.done (omega (arith, c.loop-j-test.true))
          (picked ∙ ap (λ k. chosen k (get_or c.loop-j.out c.loop-j.j (pos 0)) course.empty) kept
          ∙ ap (λ x. chosen (is_kept (task_in course).world (task_in course).pipeline (sids_in (task_in course)) (node_in course).mask c.args.lane.now.i (course.low + c.loop-j.j)) x course.empty) (c.loop-j.invariant.rest c.loop-j.j (omega arith)));
      rest = λ n h. get_or-set_other c.loop-j.out c.loop-j.j n c.choose.result (pos 0) (λ e. omega arith) ∙ c.loop-j.invariant.rest n (omega arith);
    })

pub returns-clause-each : goal.returns-clause-each
returns-clause-each c = λ j h. c.loop-j.invariant.done j (omega (arith, c.loop-j-test.false, h, c.requires.long))
