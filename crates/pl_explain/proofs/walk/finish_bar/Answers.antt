use Rattle.std.proofs.Common.{rules, arith, ◌≡◌, ◌<◌, ◌≤◌, ◌^◌, ◌∙◌, All, Some, ap, sym, subst, slice_get, length, pos, w32, w64, FitsSigned}
use Rattle.std.proofs.lemmas.Bool.{true≢false}
use Rattle.std.proofs.lemmas.Int.{to_z-of_z}
use Rattle.pl_spec.specs.Dates.{IsDay}
use Rattle.pl_spec.specs.Rounding.{IsCell}
use Rattle.pl_terms.specs.Checked.{pipeline_of}
use Rattle.pl_derivation.specs.Facts.{number_in}
use Rattle.pl_derivation.specs.Facts.Fact.{Seen}
use Rattle.pl_derivation.specs.Right.{last_cell, seen_cells}
use Rattle.pl_derivation.proofs.Truths.{last_seen}
use Rattle.pl_derivation.specs.declared.line.Line.TheVariants as line
use Rattle.pl_world.specs.Worlds.{world_of}
use Rattle.pl_explain.proofs.Given.{none-holds}
use Rattle.pl_explain.proofs.Lines.{last-cell}
use Rattle.pl_explain.proofs.Walks.{walk-none}
use Rattle.pl_explain.proofs.Finished.{no-memory, put-walked, bar-line, cells-all, some-cells, seen-sid, seen-earlier, seen-day}
use Rattle.pl_explain.proofs.walk.finish_bar.Goals as goal

pub unreachable-requires : goal.unreachable-requires
unreachable-requires g c =
    let w = c.args.source.now.world in
    let p = c.args.source.now.checked.now in
    true≢false (sym (seen-sid w p c.args.column c.args.sid c.args.bar c.args.session c.requires.fact) ∙ none-holds c.col_of.result c.in_default.not-Some c.col_of.ensures.none)

pub seen_cells-requires-clause-bar : goal.seen_cells-requires-clause-bar
seen_cells-requires-clause-bar g c = seen-earlier c.args.source.now.world c.args.source.now.checked.now c.args.column c.args.sid c.args.bar c.args.session c.requires.fact

pub seen_cells-requires-clause-session : goal.seen_cells-requires-clause-session
seen_cells-requires-clause-session g c = seen-day c.args.source.now.world c.args.source.now.checked.now c.args.column c.args.sid c.args.bar c.args.session c.requires.fact

pub returns-in_err-seen : goal.returns-in_err-seen
returns-in_err-seen g c = no-memory _ _ _ _ _ _ _ c.from_residual.ensures.1

pub day-requires : goal.day-requires
day-requires g c =
    let earlier = seen-earlier c.args.source.now.world c.args.source.now.checked.now c.args.column c.args.sid c.args.bar c.args.session c.requires.fact in
    let within = seen-day c.args.source.now.world c.args.source.now.checked.now c.args.column c.args.sid c.args.bar c.args.session c.requires.fact in
    omega (arith, earlier, within)

pub day-requires-2 : goal.day-requires-2
day-requires-2 g c = seen-day c.args.source.now.world c.args.source.now.checked.now c.args.column c.args.sid c.args.bar c.args.session c.requires.fact

pub returns : goal.returns
returns g c =
    let w = c.args.source.now.world in
    let p = c.args.source.now.checked.now in
    let walk = c.args.walk.now in
    let k = c.args.column in
    let a = c.args.sid in
    let s = c.args.bar in
    let d = c.args.session in
    let f = Seen k a (pos s) (pos d) in
    let bar_day = c.day.result in
    let day = c.day-2.result in
    let x = c.last_of-number.result in
    let fits_bar : FitsSigned w32 c.day.result = search rules in
    let fits_day : FitsSigned w32 c.day-2.result = search rules in
    let fits : FitsSigned w64 c.last_of-number.result = search rules in
    let place = c.in-Some.ensures.some in
    let cells = c.in_ok-seen.ensures.value ∙ ap (λ b. seen_cells (world_of w) b k (pos s) (pos d)) place.sid_is in
    let at_bar : slice_get w.sessions.now s ≡ Some bar_day = c.day.ensures.exact in
    let at : slice_get w.sessions.now d ≡ Some day = c.day-2.ensures.exact in
    let said = line.Seen k a bar_day day c.new.result in
    let is = bar-line w p k a s d bar_day day c.new.result at_bar at (c.new.ensures ∙ cells) in
    let put = simp to_z-of_z at c.put.ensures in
    let value : x ≡ number_in (world_of w) (pipeline_of p) f = c.last_of-number.ensures ∙ ap last_cell (c.deref.ensures.value ∙ cells) ∙ last_seen (world_of w) a k (pos s) (pos d) in
    let cell : IsCell x = subst IsCell (sym c.last_of-number.ensures) (last-cell c.deref.result.now (subst (All IsCell) (sym c.deref.ensures.value) c.in_ok-seen.ensures.cells)) in
    let small : a < 2 ^ 32 = omega (arith, c.ranges.sid.fits) in
    let date_bar : IsDay bar_day = c.day.ensures.date in
    let date : IsDay day = c.day-2.ensures.date in
    let some = subst (λ xs. 1 ≤ length xs) (sym (c.new.ensures ∙ cells)) (some-cells (world_of w) a k (pos s) (pos d)) in
    let all = cells-all c.new.result (subst (All IsCell) (sym c.new.ensures) c.in_ok-seen.ensures.cells) in
    put-walked w p 0 f walk walk c.put.new.walk c.requires.fresh (walk-none w p 0 walk) said x is 1 (omega arith) c.put.result c.requires.stands c.requires.stands
    (small, date_bar, date, some, all) value cell c.requires.fact.0 put
