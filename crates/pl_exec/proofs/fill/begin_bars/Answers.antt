use Rattle.std.proofs.Common.{◌≤◌, sym, arith, subst}
use Rattle.pl_adjarray.specs.Buffered.{Buffered}
use Rattle.pl_exec.specs.ChunkInputs.{node_in, one_col}
use Rattle.pl_exec.proofs.Stands.{window_few}
use Rattle.pl_exec.proofs.fill.begin_bars.Goals as goal

pub traverse-requires-clause-most : goal.traverse-requires-clause-most
traverse-requires-clause-most c =
    subst (λ (b : Buffered). c.window_of.result ≤ b.rows) (sym c.requires.array)
    (let f = window_few c.args.lane.now.course.now.chunk.now c.args.lane.now.course.now.workspace.now c.args.lane.now.course.now.term.0 (node_in c.args.lane.now.course.now) c.requires.run (one_col c.args.lane.now.course.now.chunk.now c.args.lane.now.i) c.args.place in omega (arith, f, c.window_of.ensures))
