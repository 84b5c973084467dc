use Rattle.std.proofs.Common.{rules, w32, w64, FitsSigned, ◌+◌, ◌∙◌, sym, ap}
use Rattle.std.proofs.lemmas.Int.{to_z-of_z}
use Rattle.pl_spec.specs.Window.{after_all, effects_in, step_count}
use Rattle.pl_adjust.specs.Columns.{events_at}
use Rattle.pl_world.proofs.Made.{effects-at, seen-at}
use Rattle.pl_model.proofs.bars.seen_cell.Goals as goal

pub returns-clause-value : goal.returns-clause-value
returns-clause-value g c =
    let cell : FitsSigned w64 c.get-cell.result = search rules in
    let bar_day : FitsSigned w32 c.day-bar_day.result = search rules in
    let day : FitsSigned w32 c.day-day.result = search rules in
    let fits : FitsSigned w64 c.seen_now.result = search rules in
    let column = c.args.column in
    let low = c.day-bar_day.result in
    let high = c.day-day.result in
    to_z-of_z w64 _ fits
    ∙ simp to_z-of_z at c.seen_now.ensures.value
    ∙ ap (λ es. after_all c.get-cell.result (effects_in column low low high es)) c.of_col.ensures.events
    ∙ ap (λ x. after_all x (effects_in column low low high (events_at c.args.world.now.adjustments.now c.args.col))) c.get-cell.ensures.value
    ∙ sym (seen-at c.args.world.now c.requires.made c.requires.assets c.args.col c.requires.col column c.args.bar_session c.args.session low high c.day-bar_day.ensures.exact c.day-day.ensures.exact)

pub returns-clause-cost : goal.returns-clause-cost
returns-clause-cost g c =
    let cell : FitsSigned w64 c.get-cell.result = search rules in
    let bar_day : FitsSigned w32 c.day-bar_day.result = search rules in
    let day : FitsSigned w32 c.day-day.result = search rules in
    let column = c.args.column in
    let low = c.day-bar_day.result in
    let high = c.day-day.result in
    simp to_z-of_z at c.seen_now.ensures.cost
    ∙ ap (λ es. c.args.steps.now + step_count (effects_in column low low high es)) c.of_col.ensures.events
    ∙ ap (λ es. c.args.steps.now + step_count es)
    (sym (effects-at c.args.world.now c.requires.made c.requires.assets c.args.col c.requires.col column c.args.bar_session c.args.session low high c.day-bar_day.ensures.exact c.day-day.ensures.exact))
