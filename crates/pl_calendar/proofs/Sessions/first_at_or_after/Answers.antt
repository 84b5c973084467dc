use Rattle.std.proofs.Common.{◌∙◌, ap, position, FitsSigned, w32}
use Rattle.std.specs.Int.RustNames.{int_le}
use Rattle.std.proofs.lemmas.Int.{to_z-of_z}
use Rattle.pl_calendar.proofs.Sessions.first_at_or_after.Goals as goal

pub returns-clause-exact : goal.returns-clause-exact
returns-clause-exact c =
    let fits : FitsSigned w32 c.args.day = c.ranges.day in
    let e = simp to_z-of_z at c.first_at_or_after.ensures.exact in
    rw (← c.self.view_is) (e ∙ ap (position (λ d. int_le c.args.day d)) c.deref.ensures.value)
