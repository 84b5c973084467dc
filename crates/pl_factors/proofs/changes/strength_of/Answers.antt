use Rattle.pl_factors.proofs.Kept.{kept_cell, kept_value}
use Rattle.std.proofs.Common.{arith, pos, ◌+ℤ◌, ◌*ℤ◌, FitsSigned}
use Rattle.std.specs.Int.{w128}
use Rattle.std.proofs.lemmas.Int.{ints, to_z-of_z}
use Rattle.pl_factors.proofs.Exact.{exact}
use Rattle.pl_factors.proofs.changes.strength_of.Goals as goal

pub returns-clause-cell : goal.returns-clause-cell
returns-clause-cell c = kept_cell _ c.quot.ensures.cell

pub returns-clause-value : goal.returns-clause-value
returns-clause-value c =
    let g = c.args.gains in
    let l = c.args.losses in
    let fg : FitsSigned w128 c.args.gains = c.ranges.gains in
    let fl : FitsSigned w128 c.args.losses = c.ranges.losses in
    let part = exact (g *ℤ pos 100000000) (omega (arith, ints, c.requires.gains)) in
    let whole = exact (g +ℤ l) (omega (arith, ints, c.requires.gains, c.requires.losses)) in
    kept_value _ _ c.quot.ensures.cell (rw (to_z-of_z w128 g fg, to_z-of_z w128 l fl, part, whole) at c.quot.ensures.value)
