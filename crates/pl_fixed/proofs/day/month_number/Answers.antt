use Rattle.std.proofs.Common.{◌≡◌, ◌-◌, ◌+◌, ◌*◌, ◌≤◌, sym, ◌∙◌, ap, unsigned_abs, arith, FitsSigned, w16, w32, rules}
use Rattle.std.proofs.lemmas.Int.{to_z-of_z}
use Rattle.pl_spec.specs.Periods.{month_number}
use Rattle.pl_fixed.proofs.DayLemmas.{month_number-date}
use Rattle.pl_fixed.proofs.day.month_number.Goals as goal

pub returns-clause-value : goal.returns-clause-value
returns-clause-value c =
    let f : FitsSigned w32 c.args.day = c.ranges.day in
    let same = simp to_z-of_z at c.date_of-date.ensures.day in
    let fits : FitsSigned w16 c.date_of-date.result.year = search rules in
    let year : c.from.result ≡ unsigned_abs c.date_of-date.result.year = rw (to_z-of_z w16 c.date_of-date.result.year fits) at c.from.ensures in
    let month : c.from-2.result ≡ c.date_of-date.result.month = c.from-2.ensures in
    let some : 1 ≤ c.date_of-date.result.month = search rules in
    let is = month_number-date c.date_of-date.result c.date_of-date.ensures.early c.date_of-date.ensures.late in
    let sum : 12 * c.from.result + c.from-2.result - 1 ≡ 12 * unsigned_abs c.date_of-date.result.year + (c.date_of-date.result.month - 1) = omega arith in
    sum ∙ sym is ∙ ap month_number same
