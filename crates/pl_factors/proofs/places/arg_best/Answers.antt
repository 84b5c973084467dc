use Rattle.std.proofs.Common.{rules, FitsSigned, w64}
use Rattle.std.proofs.lemmas.Int.{to_z-of_z}
use Rattle.pl_lanes.proofs.Heights.{best-known}
use Rattle.pl_factors.proofs.places.arg_best.Goals as goal

pub place_number-requires-clause-known : goal.place_number-requires-clause-known
place_number-requires-clause-known c =
    let fits : FitsSigned w64 c.best_present-best.result = search rules in
    rw (to_z-of_z w64 _ fits, c.best_present-best.ensures.value) (best-known c.args.low c.args.a.now c.requires.cells)
