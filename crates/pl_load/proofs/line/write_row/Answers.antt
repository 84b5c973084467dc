use Rattle.std.proofs.Common.{append_assoc, FitsSigned, w64}
use Rattle.std.proofs.lemmas.Int.{to_z-of_z}
use Rattle.pl_load.proofs.line.write_row.Goals as goal

pub returns : goal.returns
returns g c =
    let fits : FitsSigned w64 c.args.id = c.ranges.id in
    let id = simp to_z-of_z at c.format.ensures.text in
    rw (← id) (simp append_assoc c.write_pieces.ensures)
