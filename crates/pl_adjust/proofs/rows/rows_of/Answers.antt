use Rattle.std.proofs.Common.{refl, ◌∙◌}
use Rattle.pl_adjust.proofs.Walks.{tells_then, walk-faults}
use Rattle.pl_adjust.proofs.rows.rows_of.Goals as goal

pub returns-in_err-read_table-clause-fault : goal.returns-in_err-read_table-clause-fault
returns-in_err-read_table-clause-fault c =
    let all = walk-faults c.args.splits.now c.args.mergers.now c.args.dividends.now in
    tells_then _ _ c.from_residual.ensures.1 c.in_err-read_table.ensures.fault (λ f told. all ∙ rw told refl)

pub returns-in_err-read_table-2-clause-fault : goal.returns-in_err-read_table-2-clause-fault
returns-in_err-read_table-2-clause-fault c =
    let all = walk-faults c.args.splits.now c.args.mergers.now c.args.dividends.now in
    tells_then _ _ c.from_residual-in_err-read_table-2.ensures.1 c.in_err-read_table-2.ensures.fault
    (λ f told. all ∙ rw (c.in_ok-read_table.ensures.fault, told) refl)

pub returns-in_err-read_table-3-clause-fault : goal.returns-in_err-read_table-3-clause-fault
returns-in_err-read_table-3-clause-fault c =
    let all = walk-faults c.args.splits.now c.args.mergers.now c.args.dividends.now in
    tells_then _ _ c.from_residual-in_err-read_table-3.ensures.1 c.in_err-read_table-3.ensures.fault
    (λ f told. all ∙ rw (c.in_ok-read_table.ensures.fault, c.in_ok-read_table-2.ensures.fault, told) refl)

pub returns-clause-fault : goal.returns-clause-fault
returns-clause-fault c =
    walk-faults c.args.splits.now c.args.mergers.now c.args.dividends.now
    ∙ rw (c.in_ok-read_table.ensures.fault, c.in_ok-read_table-2.ensures.fault, c.in_ok-read_table-3.ensures.fault) refl
