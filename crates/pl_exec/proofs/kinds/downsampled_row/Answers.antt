use Rattle.std.proofs.Common.{◌∙◌, arith, w64, FitsSigned, ap, rules}
use Rattle.std.proofs.lemmas.Int.{to_z-of_z}
use Rattle.pl_terms.specs.Sorts.{is_downsampled}
use Rattle.pl_exec.proofs.Givens.{kept_out, start_given, start_read}
use Rattle.pl_exec.proofs.kinds.downsampled_row.Goals as goal

pub downsampled_input-requires-clause-kind : goal.downsampled_input-requires-clause-kind
downsampled_input-requires-clause-kind c = ap is_downsampled c.requires.kind

pub cells_on-requires-clause-read : goal.cells_on-requires-clause-read
cells_on-requires-clause-read c =
    start_read c.args.term_session.now c.requires.term_session c.args.frequency c.downsampled_input.result.0 c.period_start-start.result c.requires.kind c.downsampled_input.ensures c.period_start-start.ensures.exact

pub cells_on-requires-clause-late : goal.cells_on-requires-clause-late
cells_on-requires-clause-late c = let a = c.period_start-start.ensures.within in let b = c.requires.term_session.late in omega arith

pub returns : goal.returns
returns c =
    let e : FitsSigned w64 c.args.term_session.now.empty = search rules in
    let kept = simp to_z-of_z at c.keep_values.ensures.each in
    kept_out c.args.term_session.now c.requires.term_session c.args.keep.now c.cells_on.new.row c.keep_values.new.out c.requires.keep
    (start_given c.args.term_session.now c.requires.term_session c.args.frequency c.downsampled_input.result.0 c.period_start-start.result c.cells_on.new.row c.requires.kind c.downsampled_input.ensures
    c.period_start-start.ensures.exact c.cells_on.ensures)
    (c.keep_values.ensures.length ∙ c.cells_on.ensures.long)
    (λ i h. kept i (omega (arith, h, c.cells_on.ensures.long)))
