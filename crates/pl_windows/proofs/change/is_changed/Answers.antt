use Rattle.std.proofs.Common.{rules, ◌≤◌, ◌∙◌, ◌==◌, ap, sym, not, length, arith, FitsSigned, w32, ℕ}
use Rattle.std.proofs.lemmas.Int.{to_z-of_z}
use Rattle.std.proofs.lemmas.List.{length-map}
use Rattle.pl_adjust.specs.Events.{event_of}
use Rattle.pl_windows.proofs.Changes.{changed-is}
use Rattle.pl_windows.proofs.change.is_changed.Goals as goal

pub returns : goal.returns
returns c =
    let a = c.args.asked.now in
    let low : FitsSigned w32 c.day-before.result = search rules in
    let high : FitsSigned w32 c.day-day.result = search rules in
    let events = simp to_z-of_z at c.events_between.ensures.events in
    let some : 1 ≤ c.args.place.session = omega (arith, c.requires.asked.range.some, c.requires.asked.range.reach, c.requires.session.from) in
    ap not c.is_empty.ensures
    ∙ ap (λ (n : ℕ). not (n == 0)) (sym (length-map c.events_between.result.now event_of) ∙ ap length events)
    ∙ changed-is a.world c.requires.asked.parts c.args.place.col c.args.place.session c.requires.col some c.day-before.result c.day-day.result c.day-before.ensures.exact c.day-day.ensures.exact
