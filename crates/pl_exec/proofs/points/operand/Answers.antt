use Rattle.std.proofs.Common.{subst, sym, slice_get}
use Rattle.pl_exec.specs.ChunkInputs.{IsLent, IsOperandOf, node_in, task_in}
use Rattle.pl_exec.proofs.Courses.{read_from}
use Rattle.pl_exec.proofs.points.operand.Goals as goal

pub lane_of-requires-clause-read : goal.lane_of-requires-clause-read
lane_of-requires-clause-read c =
    let r = read_from c.args.lane.now.course.now c.requires.lane.course c.args.place _ (subst (IsLent (task_in c.args.lane.now.course.now) (node_in c.args.lane.now.course.now) (slice_get (node_in c.args.lane.now.course.now).inputs c.args.place)) c.in-InTerm.is c.requires.lent) in
    (r.0, r.1.1)

pub returns-in-InTerm : goal.returns-in-InTerm
returns-in-InTerm c =
    let r = read_from c.args.lane.now.course.now c.requires.lane.course c.args.place _ (subst (IsLent (task_in c.args.lane.now.course.now) (node_in c.args.lane.now.course.now) (slice_get (node_in c.args.lane.now.course.now).inputs c.args.place)) c.in-InTerm.is c.requires.lent) in
    subst (λ o. IsOperandOf c.args.lane.now.course.now o c.args.lane.now.i c.lane_of.result.now) (sym r.1.0) (c.lane_of.ensures r.0 r.1.1)
