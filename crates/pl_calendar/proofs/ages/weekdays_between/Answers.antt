use Rattle.std.proofs.Common.{◌≡◌, arith, FitsSigned, w32}
use Rattle.std.proofs.lemmas.Int.{to_z-of_z}
use Rattle.pl_spec.specs.Ages.{since_monday, weekdays_before}
use Rattle.pl_spec.proofs.Ages.{weekdays_are_counted}
use Rattle.pl_calendar.proofs.ages.weekdays_between.Goals as goal

pub returns : goal.returns
returns c =
    let known : FitsSigned w32 c.args.known = c.ranges.known in
    let day : FitsSigned w32 c.args.day = c.ranges.day in
    let high : c.weekdays_before.result ≡ weekdays_before (since_monday c.args.day) = simp to_z-of_z at c.weekdays_before.ensures in
    let low : c.weekdays_before-2.result ≡ weekdays_before (since_monday c.args.known) = simp to_z-of_z at c.weekdays_before-2.ensures in
    omega (arith, high, low, weekdays_are_counted.difference c.args.known c.args.day c.requires.known c.requires.later)
