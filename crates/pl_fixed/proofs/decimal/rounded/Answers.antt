use Rattle.std.proofs.Common.{rules, arith, ◌≡◌, ◌+◌, ◌*◌, ◌^◌, ◌≤◌, pos, neg_ℤ, ◌-ℤ◌, FitsSigned, to_z, of_z}
use Rattle.std.specs.Int.{w128}
use Rattle.std.proofs.lemmas.Int.{ints, to_z-of_z, to_z_pos}
use Rattle.std.proofs.lemmas.Nat.{mul-le}
use Rattle.pl_fixed.proofs.decimal.rounded.Goals as goal

pub returns-then-negative : goal.returns-then-negative
returns-then-negative c =
    let units = c.args.units in
    let scale = c.args.scale in
    let product : units * scale ≤ 10 ^ 12 * 10 ^ 18 = mul-le units scale _ _ c.requires.units c.requires.scale in
    let m = (units * scale + c.args.part) * 1000000 in
    let numerator : to_z w128 (of_z w128 (pos 0 -ℤ to_z w128 m)) ≡ neg_ℤ (pos m) = omega (arith, ints) in
    let divisor = to_z_pos w128 scale (omega arith) in
    let fd : FitsSigned w128 c.div_round.result = search rules in
    rw (c.if-negative.true, to_z-of_z w128 _ fd, c.div_round.ensures.value, numerator, divisor)

pub returns-else-negative : goal.returns-else-negative
returns-else-negative c =
    let units = c.args.units in
    let scale = c.args.scale in
    let product : units * scale ≤ 10 ^ 12 * 10 ^ 18 = mul-le units scale _ _ c.requires.units c.requires.scale in
    let m = (units * scale + c.args.part) * 1000000 in
    let numerator = to_z_pos w128 m (omega arith) in
    let divisor = to_z_pos w128 scale (omega arith) in
    let fd : FitsSigned w128 c.div_round-else-negative.result = search rules in
    rw (c.if-negative.false, to_z-of_z w128 _ fd, c.div_round-else-negative.ensures.value, numerator, divisor)
