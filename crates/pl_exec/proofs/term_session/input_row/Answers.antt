use Rattle.std.proofs.Common.{rules, ◌≡◌, Some, slice_get}
use Rattle.pl_pipeline.specs.Term.Input.{TermInput}
use Rattle.pl_exec.specs.ChunkInputs.{node_at}
use Rattle.pl_exec.proofs.Held.{read_less}
use Rattle.pl_exec.proofs.term_session.input_row.Goals as goal

pub term_row-requires-clause-read : goal.term_row-requires-clause-read
term_row-requires-clause-read c =
    let e : slice_get (node_at c.args.term_session.now).inputs c.args.place ≡ Some (TermInput c.in-Some-Term.term.0) = search rules in
    read_less _ _ _ _ _ (c.requires.term_session.ready.inputs c.args.place c.in-Some-Term.term.0 e)
