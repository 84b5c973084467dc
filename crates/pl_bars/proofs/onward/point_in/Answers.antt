use Rattle.std.proofs.Common.{◌-◌, ◌+◌, ◌≡◌, ◌≤◌, length, arith, subst}
use Rattle.pl_bars.specs.BarPoint.{NoneBefore}
use Rattle.pl_bars.proofs.BarRange.{part_bars, part_point, long}
use Rattle.pl_bars.proofs.onward.point_in.Goals as goal

pub point_of-requires : goal.point_of-requires
point_of-requires c =
    let within : c.args.low + (c.args.high - c.args.low) ≤ length c.args.rows.now = omega (arith, c.requires.order, c.requires.most) in
    part_bars c.args.rows.now c.args.low (c.args.high - c.args.low) within c.requires.rows

pub returns-clause-within : goal.returns-clause-within
returns-clause-within c =
    let within : c.args.low + (c.args.high - c.args.low) ≤ length c.args.rows.now = omega (arith, c.requires.order, c.requires.most) in
    let part = long c.args.rows.now c.args.low (c.args.high - c.args.low) within in
    omega (arith, part, within, c.point_of.ensures.within)

pub returns-clause-point : goal.returns-clause-point
returns-clause-point c =
    let within : c.args.low + (c.args.high - c.args.low) ≤ length c.args.rows.now = omega (arith, c.requires.order, c.requires.most) in
    let part = long c.args.rows.now c.args.low (c.args.high - c.args.low) within in
    let end : c.args.high ≡ c.args.low + (c.args.high - c.args.low) = omega (arith, c.requires.order) in
    part_point c.args.rows.now c.args.low (c.args.high - c.args.low) within c.args.col c.args.session c.point_of.result c.requires.before
    (subst (NoneBefore c.args.col c.args.session c.args.rows.now) end c.requires.after) (omega (arith, part, c.point_of.ensures.within)) c.point_of.ensures.point
