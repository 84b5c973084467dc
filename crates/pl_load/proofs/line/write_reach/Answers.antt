use Rattle.std.proofs.Common.{FitsSigned, w64}
use Rattle.std.proofs.lemmas.Int.{to_z-of_z}
use Rattle.pl_load.proofs.line.write_reach.Goals as goal

pub returns : goal.returns
returns g c =
    let fits : FitsSigned w64 c.args.reach = c.ranges.reach in
    let reach = simp to_z-of_z at c.format.ensures.text in
    rw (← reach) c.write_named.ensures
