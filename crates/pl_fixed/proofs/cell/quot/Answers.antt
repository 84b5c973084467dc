use Rattle.std.proofs.Common.{◌≡◌, arith, rules, pos, ◌-ℤ◌, FitsSigned, neg_ℤ, to_z, of_z, w64}
use Rattle.std.specs.Int.{w128}
use Rattle.std.proofs.lemmas.Int.{ints, to_z-of_z}
use Rattle.pl_fixed.proofs.CellLemmas.{quot-below}
use Rattle.pl_fixed.proofs.cell.quot.Goals as goal

pub returns-then-b-lt0-clause-value : goal.returns-then-b-lt0-clause-value
returns-then-b-lt0-clause-value c =
    let fa : FitsSigned w128 c.args.a = c.ranges.a in
    let fb : FitsSigned w128 c.args.b = c.ranges.b in
    let fr : FitsSigned w64 c.to_cell.result = search rules in
    let fd : FitsSigned w128 c.div_round.result = search rules in
    let na : to_z w128 (of_z w128 (pos 0 -ℤ to_z w128 (of_z w128 c.args.a))) ≡ neg_ℤ c.args.a = omega (arith, ints) in
    let nb : to_z w128 (of_z w128 (pos 0 -ℤ to_z w128 (of_z w128 c.args.b))) ≡ neg_ℤ c.args.b = omega (arith, ints) in
    let b = quot-below c.args.a c.args.b (omega (arith, ints)) in
    rw (to_z-of_z w64 _ fr, c.to_cell.ensures.value, to_z-of_z w128 _ fd, c.div_round.ensures.value, na, nb, b)

pub returns-then-b-lt0-clause-cell : goal.returns-then-b-lt0-clause-cell
returns-then-b-lt0-clause-cell c =
    let fr : FitsSigned w64 c.to_cell.result = search rules in
    rw (to_z-of_z w64 _ fr) c.to_cell.ensures.cell

pub returns-else-b-lt0-clause-cell : goal.returns-else-b-lt0-clause-cell
returns-else-b-lt0-clause-cell c =
    let fr : FitsSigned w64 c.to_cell-else-b-lt0.result = search rules in
    rw (to_z-of_z w64 _ fr) c.to_cell-else-b-lt0.ensures.cell
