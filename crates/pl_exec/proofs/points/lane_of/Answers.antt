use Rattle.std.proofs.Common.{arith, refl, subst, sym}
use Rattle.pl_exec.specs.ChunkInputs.{IsOperand}
use Rattle.pl_exec.proofs.Courses.{lane_read, lane_within}
use Rattle.pl_exec.proofs.points.lane_of.Goals as goal

pub overflow_sub-after : goal.overflow_sub-after
overflow_sub-after c = omega (arith, c.requires.read.1.early)

pub cells_from-requires : goal.cells_from-requires
cells_from-requires c = lane_within c.args.lane.now.course.now c.requires.read.0 c.args.array.now c.requires.lane.course c.requires.read.1 c.args.lane.now.i c.requires.lane.asset

pub returns : goal.returns
returns c u read =
    subst (λ row. IsOperand c.args.lane.now.course.now u c.args.lane.now.i row) (sym c.cells_from.ensures)
    (lane_read c.args.lane.now.course.now u c.args.array.now c.requires.lane.course read c.args.lane.now.i c.requires.lane.asset c.args.lane.now.course.now.count refl)
