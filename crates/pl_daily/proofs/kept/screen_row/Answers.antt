use Rattle.std.proofs.Common.{sym, ◌∙◌, arith}
use Rattle.pl_planner.proofs.Marks.{screen-within}
use Rattle.pl_daily.proofs.KeptPlaces.{screen_is}
use Rattle.pl_daily.proofs.kept.screen_row.Goals as goal

pub bounds-terms-t : goal.bounds-terms-t
bounds-terms-t c =
    let inside = screen-within c.args.checked.now c.requires.checked c.in-Some.t (sym c.screen.ensures ∙ c.in-Some.is) in
    omega (arith, inside, c.requires.many)

pub returns-in-Some : goal.returns-in-Some
returns-in-Some c =
    let inside = screen-within c.args.checked.now c.requires.checked c.in-Some.t (sym c.screen.ensures ∙ c.in-Some.is) in
    screen_is c.args.terms.now c.args.checked.now.screen c.in-Some.t c.index-terms-t.result c.deref.result.now (sym c.screen.ensures ∙ c.in-Some.is) (omega (arith, inside, c.requires.many)) c.deref.ensures.value
