use Rattle.std.proofs.Common.{rules, ◌≡◌, Some, slice_get}
use Rattle.pl_pipeline.specs.Term.Input.{TermInput}
use Rattle.pl_exec.specs.ChunkInputs.{node_in}
use Rattle.pl_exec.proofs.windows.source_in.Goals as goal

pub array_of-requires-clause-used : goal.array_of-requires-clause-used
array_of-requires-clause-used c =
    let e : slice_get (node_in c.args.course.now).inputs c.args.place ≡ Some (TermInput c.in-Some-Term.term.0) = search rules in
    ((c.requires.run.ready (node_in c.args.course.now) c.requires.node).inputs c.args.place c.in-Some-Term.term.0 e).used

pub array_of-requires-clause-held : goal.array_of-requires-clause-held
array_of-requires-clause-held c =
    let e : slice_get (node_in c.args.course.now).inputs c.args.place ≡ Some (TermInput c.in-Some-Term.term.0) = search rules in
    ((c.requires.run.ready (node_in c.args.course.now) c.requires.node).inputs c.args.place c.in-Some-Term.term.0 e).held
