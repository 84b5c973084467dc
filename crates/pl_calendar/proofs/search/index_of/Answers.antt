use Rattle.std.proofs.Common.{rules, get_or, ◌∙◌, sym, pos, FitsSigned, w32}
use Rattle.std.proofs.lemmas.Int.{to_z-of_z}
use Rattle.pl_calendar.proofs.DaySearch.{found_index, found_other, found_nowhere}
use Rattle.pl_calendar.proofs.search.index_of.Goals as goal

pub returns-in_err-i-clause-exact : goal.returns-in_err-i-clause-exact
returns-in_err-i-clause-exact c =
    let fits : FitsSigned w32 c.args.day = c.ranges.day in
    let e = simp to_z-of_z at c.first_at_or_after.ensures.exact in
    rw c.from_residual.ensures (found_nowhere c.args.day c.args.days.now (sym c.in_err-i.was ∙ e))

pub returns-then-is_same-clause-exact : goal.returns-then-is_same-clause-exact
returns-then-is_same-clause-exact c =
    let fits : FitsSigned w32 c.args.day = c.ranges.day in
    let e = simp to_z-of_z at c.first_at_or_after.ensures.exact in
    let of : FitsSigned w32 (get_or c.args.days.now c.in_ok-i.i (pos 0)) = search rules in
    let same = simp to_z-of_z at c.is_same.ensures in
    found_index c.args.day c.args.days.now c.in_ok-i.i (pos 0) c.requires (sym e ∙ c.in_ok-i.was) (sym same ∙ c.if-is_same.true)

pub returns-else-is_same-clause-exact : goal.returns-else-is_same-clause-exact
returns-else-is_same-clause-exact c =
    let fits : FitsSigned w32 c.args.day = c.ranges.day in
    let e = simp to_z-of_z at c.first_at_or_after.ensures.exact in
    let of : FitsSigned w32 (get_or c.args.days.now c.in_ok-i.i (pos 0)) = search rules in
    let same = simp to_z-of_z at c.is_same.ensures in
    found_other c.args.day c.args.days.now c.in_ok-i.i (pos 0) c.requires (sym e ∙ c.in_ok-i.was) (sym same ∙ c.if-is_same.false)
