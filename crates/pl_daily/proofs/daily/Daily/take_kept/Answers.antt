use Rattle.std.proofs.Common.{◌<◌, ◌∙◌, ap, length, arith}
use Rattle.circular_buffer.proofs.Places.{slice_get-some}
use Rattle.pl_terms.specs.Checked.{pipeline_of}
use Rattle.pl_daily.specs.Rows.{row_of}
use Rattle.pl_daily.specs.TermDays.{number_row}
use Rattle.pl_planner.proofs.Pipelines.{screen-in}
use Rattle.pl_daily.proofs.KeptPlaces.{screen_long}
use Rattle.pl_daily.proofs.Outputs.{screen-used}
use Rattle.pl_daily.proofs.daily.Daily.take_kept.Goals as goal

pub put_kept-requires-clause-screen : goal.put_kept-requires-clause-screen
put_kept-requires-clause-screen c =
    let d = c.self.inside in
    let i = c.self.invariant in
    let p = pipeline_of d.checked.now in
    let terms = d.terms.items in
    screen_long (length d.assets.now) terms p.screen c.screen_row-screen.result
    (λ t e.
    let inside : t < length terms = (let l = screen-in p i.checked t e in omega (arith, l, i.terms.many)) in
    let x = slice_get-some terms t inside in
    ap (λ o. length (row_of o)) x.1 ∙ (i.terms.room.full t x.0 (screen-used p i.checked t e) x.1).row)
    (c.screen_row-screen.ensures ∙ ap (λ ts. number_row ts p.screen) c.deref.ensures.value)
