use Rattle.std.proofs.Common.{rules, ◌≡◌, Some}
use Rattle.pl_exec.specs.ChunkInputs.{node_in}
use Rattle.pl_exec.proofs.windows.mask_in.Goals as goal

pub array_of-requires-clause-used : goal.array_of-requires-clause-used
array_of-requires-clause-used c =
    let e : (node_in c.args.course.now).mask ≡ Some c.in-Some.term.0 = search rules in
    ((c.requires.run.ready (node_in c.args.course.now) c.requires.node).mask c.in-Some.term.0 e).used

pub array_of-requires-clause-held : goal.array_of-requires-clause-held
array_of-requires-clause-held c =
    let e : (node_in c.args.course.now).mask ≡ Some c.in-Some.term.0 = search rules in
    ((c.requires.run.ready (node_in c.args.course.now) c.requires.node).mask c.in-Some.term.0 e).held
