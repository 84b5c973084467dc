use Rattle.std.proofs.Common.{◌+◌, All, Some, ap, arith, subst, sym}
use Rattle.pl_spec.specs.Rounding.{IsCell}
use Rattle.pl_pipeline.specs.Term.Input.{TermInput}
use Rattle.pl_exec.specs.ChunkInputs.{IsReach}
use Rattle.pl_exec.proofs.Stretches.{reach_cells, reach_end, reach_size, term_reached}
use Rattle.pl_exec.proofs.term_session.term_reach.Goals as goal

pub overflow_sub-last : goal.overflow_sub-last
overflow_sub-last c = let l = c.requires.lent.1 in omega (arith, l.read.early, l.read.some, l.array.low)

pub cells_up_to-requires-clause-end : goal.cells_up_to-requires-clause-end
cells_up_to-requires-clause-end c =
    reach_end c.args.term_session.now c.requires.term_session c.args.i c.requires.lent.0 c.args.array.now c.requires.lent.1 c.requires.asset c.args.more (c.window_of.result + c.args.more) (ap (λ n. n + c.args.more) c.window_of.ensures) c.requires.late

pub cells_up_to-requires-clause-size : goal.cells_up_to-requires-clause-size
cells_up_to-requires-clause-size c =
    reach_size c.args.term_session.now c.requires.term_session c.args.i c.requires.lent.0 c.args.array.now c.requires.lent.1 c.requires.asset c.args.more (c.window_of.result + c.args.more) (ap (λ n. n + c.args.more) c.window_of.ensures) c.requires.late

pub returns-clause-value : goal.returns-clause-value
returns-clause-value c u l =
    subst (IsReach c.args.term_session.now (Some (TermInput u)) c.args.i c.args.more) (sym c.cells_up_to.ensures)
    (term_reached c.args.term_session.now c.requires.term_session c.args.i u c.args.array.now l c.requires.asset c.args.more (c.window_of.result + c.args.more) (ap (λ n. n + c.args.more) c.window_of.ensures) c.requires.late)

pub returns-clause-cells : goal.returns-clause-cells
returns-clause-cells c =
    subst (All IsCell) (sym c.cells_up_to.ensures)
    (reach_cells c.args.term_session.now c.requires.term_session c.args.i c.requires.lent.0 c.args.array.now c.requires.lent.1 c.requires.asset c.args.more (c.window_of.result + c.args.more) (ap (λ n. n + c.args.more) c.window_of.ensures) c.requires.late)
