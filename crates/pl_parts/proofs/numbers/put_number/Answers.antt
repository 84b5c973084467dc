use Rattle.pl_parts.proofs.Fields.{joined, on-ok-joined, cell-put}
use Rattle.pl_parts.proofs.numbers.put_number.Goals as goal

pub returns : goal.returns
returns c =
    on-ok-joined c.put_end.result _ _ _ _ _
    (joined _ _ _ _ _ c.in_ok-put_front.ensures (cell-put _ _ _ c.requires.cell c.in_ok-put_further_cell.ensures))
    c.put_end.ensures
