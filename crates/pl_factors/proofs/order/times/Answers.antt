use Rattle.std.proofs.Common.{◌≤◌, arith, pos, unsigned_abs, get_or, inr}
use Rattle.std.specs.Int.{w128}
use Rattle.std.proofs.lemmas.Int.{to_z-of_z, to_z_pos, unsigned_abs-mul}
use Rattle.std.proofs.lemmas.Nat.{mul-le}
use Rattle.pl_spec.specs.Rounding.{LIMIT}
use Rattle.pl_lanes.proofs.Bits.{cell-fits}
use Rattle.pl_factors.proofs.Casts.{wide, product-wide}
use Rattle.pl_factors.proofs.order.times.Goals as goal

pub returns-else-parts-eq0-clause-small : goal.returns-else-parts-eq0-clause-small
returns-else-parts-eq0-clause-small c =
    let x = get_or c.args.values.now c.args.place (pos 0) in
    let small : unsigned_abs x ≤ LIMIT = c.requires.small c.args.place (pos 0) (c.requires.there (omega (arith, c.if-parts-eq0.false))) in
    let parts = to_z_pos w128 c.args.parts (omega (arith, c.requires.parts)) in
    let p = product-wide x (pos c.args.parts) small (omega (arith, c.requires.parts)) in
    rw (wide x (cell-fits x (inr small)), parts, to_z-of_z w128 _ p.1) (rw (unsigned_abs-mul x (pos c.args.parts)) (mul-le (unsigned_abs x) c.args.parts LIMIT 10000 small c.requires.parts))
