use Rattle.std.proofs.Common.{◌≤◌, ◌<◌, ◌*◌, ◌+◌, ◌∙◌, ap, sym, subst, length, arith}
use Rattle.pl_exec.specs.declared.term_session.TermSession.{TermSession}
use Rattle.std.proofs.lemmas.List.{length-take-le}
use Rattle.pl_spec.specs.Rounding.{IsCell}
use Rattle.pl_values.specs.Families.{IsOf}
use Rattle.pl_exec.specs.Tasks.{assets_in, cell_in}
use Rattle.pl_exec.specs.ChunkInputs.{IsRowOfTerm, node_at, task_at, task_in}
use Rattle.pl_exec.proofs.Courses.{course_array}
use Rattle.pl_exec.proofs.Spans.{all_written, more_written, row_put}
use Rattle.pl_exec.proofs.fill.fill_over.Goals as goal

pub slice_bounds-row-end : goal.slice_bounds-row-end
slice_bounds-row-end c = omega (arith, c.requires.out, c.loop-j.auto.out)

pub slice_bounds-row-end-in-loop-j : goal.slice_bounds-row-end-in-loop-j
slice_bounds-row-end-in-loop-j c = sym (length-take-le (assets_in (task_in c.args.course.now)) c.loop-j.out (omega (arith, c.requires.out, c.loop-j.auto.out)))

pub slice_bounds-row_on-end : goal.slice_bounds-row_on-end
slice_bounds-row_on-end c = omega (arith, c.requires.first, c.loop-j.auto.first)

pub slice_bounds-row_on-end-in-loop-j : goal.slice_bounds-row_on-end-in-loop-j
slice_bounds-row_on-end-in-loop-j c = sym (length-take-le (assets_in (task_in c.args.course.now)) c.loop-j.first (omega (arith, c.requires.first, c.loop-j.auto.first)))

pub slice_bounds-row_on-end-in-loop-j-2 : goal.slice_bounds-row_on-end-in-loop-j-2
slice_bounds-row_on-end-in-loop-j-2 c = omega (arith, c.requires.second, c.loop-j.auto.second)

pub slice_bounds-row_on-end-in-loop-j-3 : goal.slice_bounds-row_on-end-in-loop-j-3
slice_bounds-row_on-end-in-loop-j-3 c = sym (length-take-le (assets_in (task_in c.args.course.now)) c.loop-j.second (omega (arith, c.requires.second, c.loop-j.auto.second)))

pub slice_bounds-row_on-end-in-loop-j-4 : goal.slice_bounds-row_on-end-in-loop-j-4
slice_bounds-row_on-end-in-loop-j-4 c = omega (arith, c.requires.keep, c.loop-j.auto.keep)

pub slice_bounds-row_on-end-in-loop-j-5 : goal.slice_bounds-row_on-end-in-loop-j-5
slice_bounds-row_on-end-in-loop-j-5 c = sym (length-take-le (assets_in (task_in c.args.course.now)) c.loop-j.keep (omega (arith, c.requires.keep, c.loop-j.auto.keep)))

pub row_on-requires-clause-term_session : goal.row_on-requires-clause-term_session
row_on-requires-clause-term_session c = c.on_session-term_session.ensures.term_session

pub row_on-requires-clause-family : goal.row_on-requires-clause-family
row_on-requires-clause-family c = subst (λ (t : TermSession). IsOf (node_at t).kind c.family_of-family.result) (sym c.on_session-term_session.ensures.is)
    (subst (λ k. IsOf k c.family_of-family.result) c.kind_of.ensures c.family_of-family.ensures)

pub row_on-requires-clause-cross : goal.row_on-requires-clause-cross
row_on-requires-clause-cross c =
    subst (λ (t : TermSession). assets_in (task_at t) ≤ c.loop-j.cross) (sym c.on_session-term_session.ensures.is) (omega (arith, c.requires.cross, c.loop-j.invariant.cross))

pub row_on-requires-clause-first : goal.row_on-requires-clause-first
row_on-requires-clause-first c =
    length-take-le (assets_in (task_in c.args.course.now)) c.loop-j.first (omega (arith, c.requires.first, c.loop-j.auto.first))
    ∙ ap (λ (t : TermSession). assets_in (task_at t)) (sym c.on_session-term_session.ensures.is)

pub row_on-requires-clause-second : goal.row_on-requires-clause-second
row_on-requires-clause-second c =
    length-take-le (assets_in (task_in c.args.course.now)) c.loop-j.second (omega (arith, c.requires.second, c.loop-j.auto.second))
    ∙ ap (λ (t : TermSession). assets_in (task_at t)) (sym c.on_session-term_session.ensures.is)

pub row_on-requires-clause-keep : goal.row_on-requires-clause-keep
row_on-requires-clause-keep c =
    length-take-le (assets_in (task_in c.args.course.now)) c.loop-j.keep (omega (arith, c.requires.keep, c.loop-j.auto.keep))
    ∙ ap (λ (t : TermSession). assets_in (task_at t)) (sym c.on_session-term_session.ensures.is)

pub row_on-requires-clause-long : goal.row_on-requires-clause-long
row_on-requires-clause-long c =
    length-take-le (assets_in (task_in c.args.course.now)) c.loop-j.out (omega (arith, c.requires.out, c.loop-j.auto.out))
    ∙ ap (λ (t : TermSession). assets_in (task_at t)) (sym c.on_session-term_session.ensures.is)

pub put_row-requires-clause-cells : goal.put_row-requires-clause-cells
put_row-requires-clause-cells c =
    let row = c.row_on.ensures.out in
    λ i h. let within : i < assets_in (task_at c.on_session-term_session.result) = omega (arith, h, row.long) in subst IsCell (sym (row.each i within)) (row.cell i within)

pub put_row-requires-clause-room : goal.put_row-requires-clause-room
put_row-requires-clause-room c =
    let row = subst (λ (t : TermSession). IsRowOfTerm t c.row_on.new.out) c.on_session-term_session.ensures.is c.row_on.ensures.out in
    subst (λ n. n * c.args.course.now.count ≤ length c.loop-j.own) (sym row.long) (omega (arith, c.requires.room, c.loop-j.auto.own))

pub loop-j-preserved : goal.loop-j-preserved
loop-j-preserved c =
    let row = subst (λ (t : TermSession). IsRowOfTerm t c.row_on.new.out) c.on_session-term_session.ensures.is c.row_on.ensures.out in
    record {
      written = more_written (cell_in (task_in c.args.course.now) c.args.course.now.term.0) c.args.course.now.low c.args.course.now.count (assets_in (task_in c.args.course.now)) c.loop-j.j c.loop-j.own c.put_row.new.cells
          c.loop-j.invariant.written c.loop-j-test.true
          (row_put (λ i. cell_in (task_in c.args.course.now) c.args.course.now.term.0 i (c.args.course.now.low + c.loop-j.j)) (assets_in (task_in c.args.course.now)) c.args.course.now.count c.loop-j.j c.row_on.new.out c.loop-j.own c.put_row.new.cells row c.put_row.ensures);
      cross = c.row_on.ensures.cross ∙ c.loop-j.invariant.cross;
    }

pub returns-clause-array : goal.returns-clause-array
returns-clause-array c =
    course_array c.args.course.now c.requires.course c.loop-j.own
    (all_written (cell_in (task_in c.args.course.now) c.args.course.now.term.0) c.args.course.now.low c.args.course.now.count (assets_in (task_in c.args.course.now)) (assets_in (task_in c.args.course.now)) c.loop-j.j c.loop-j.own c.loop-j.invariant.written (omega arith) (omega (arith, c.loop-j-test.false)) (omega (arith, c.requires.room, c.loop-j.auto.own)))
