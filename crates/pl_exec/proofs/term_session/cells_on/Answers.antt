use Rattle.std.proofs.Common.{rules, ◌≡◌, ◌∙◌, arith, w64, FitsSigned}
use Rattle.std.proofs.lemmas.Int.{to_z-of_z}
use Rattle.pl_values.proofs.Written.{one_given}
use Rattle.pl_exec.specs.Tasks.{cell_in}
use Rattle.pl_exec.specs.ChunkInputs.{task_at}
use Rattle.pl_exec.proofs.Held.{cell_within, cell_is, is_cell}
use Rattle.pl_exec.proofs.term_session.cells_on.Goals as goal

pub overflow_sub-at : goal.overflow_sub-at
overflow_sub-at c = omega (arith, c.requires.read.early, c.requires.read.some, c.array_of-array.ensures.low)

pub cell_at-requires : goal.cell_at-requires
cell_at-requires c =
    cell_within (task_at c.args.term_session.now) c.args.term.0 c.array_of-array.result c.array_of-array.ensures c.loop-i.i c.args.session (omega (arith, c.loop-i-test.true, c.loop-i.auto.row, c.requires.long)) (omega (arith, c.requires.read.early, c.requires.read.some)) c.requires.late

pub loop-i-preserved : goal.loop-i-preserved
loop-i-preserved c =
    let cell : FitsSigned w64 c.cell_at.result = search rules in
    rw (to_z-of_z w64 _ cell) (one_given (λ n x. x ≡ cell_in (task_at c.args.term_session.now) c.args.term.0 n c.args.session) c.loop-i.i c.loop-i.row c.cell_at.result c.loop-i.invariant (omega (arith, c.loop-i-test.true))
    (c.cell_at.ensures ∙ cell_is (task_at c.args.term_session.now) c.args.term.0 c.array_of-array.result c.array_of-array.ensures c.loop-i.i c.args.session (omega (arith, c.loop-i-test.true, c.loop-i.auto.row, c.requires.long)) (omega (arith, c.requires.read.early, c.requires.read.some)) c.requires.late))

pub returns : goal.returns
returns c = record {
  long = c.loop-i.auto.row ∙ c.requires.long;
  each = λ n h. c.loop-i.invariant n (omega (arith, h, c.loop-i-test.false, c.loop-i.auto.row, c.requires.long));
  cell = λ n h. is_cell (task_at c.args.term_session.now) c.args.term.0 c.array_of-array.result c.array_of-array.ensures n c.args.session h (omega (arith, c.requires.read.early, c.requires.read.some)) c.requires.late;
}
