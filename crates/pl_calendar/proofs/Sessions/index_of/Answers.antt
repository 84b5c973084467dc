use Rattle.std.proofs.Common.{◌∙◌, ap, position, FitsSigned, w32}
use Rattle.std.specs.Ordering.{int_eq}
use Rattle.std.proofs.lemmas.Int.{to_z-of_z}
use Rattle.pl_calendar.proofs.Sessions.index_of.Goals as goal

pub returns-clause-exact : goal.returns-clause-exact
returns-clause-exact c =
    let fits : FitsSigned w32 c.args.day = c.ranges.day in
    let e = simp to_z-of_z at c.index_of.ensures.exact in
    rw (← c.self.view_is) (e ∙ ap (position (λ d. int_eq d c.args.day)) c.deref.ensures.value)
