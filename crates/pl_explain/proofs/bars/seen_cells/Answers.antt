use Rattle.std.proofs.Common.{◌∙◌, ◌+◌, sym, ap, filter_map, rules, pos, w32, w64, FitsSigned}
use Rattle.std.proofs.lemmas.Result.{IfOk-weaker, on_ok_weaker}
use Rattle.std.proofs.lemmas.Int.{to_z-of_z}
use Rattle.pl_spec.specs.Parts.{sid_at}
use Rattle.pl_spec.specs.Window.{effect, effects, step_count}
use Rattle.pl_bars.proofs.BarWorlds.{cells_raw}
use Rattle.pl_derivation.specs.Right.{after_each}
use Rattle.pl_world.specs.Worlds.{world_of}
use Rattle.pl_world.proofs.Made.{effects-at}
use Rattle.pl_explain.proofs.bars.seen_cells.Goals as goal

pub returns-clause-value : goal.returns-clause-value
returns-clause-value g c =
    let w = c.args.world.now in
    let a = sid_at w.assets.now c.args.col in
    let cell : FitsSigned w64 c.get-cell.result = search rules in
    let bar_day : FitsSigned w32 c.day-bar_day.result = search rules in
    let day : FitsSigned w32 c.day-day.result = search rules in
    let low = c.day-bar_day.result in
    let high = c.day-day.result in
    let made = c.requires.made in
    let raw = cells_raw w.sessions.now w.assets.now w.labels.now.rows w.labels.now.texts w.bars.now w.adjustments.now w.numbers.now.rows c.requires.assets.ascend made.bars_in c.args.col c.args.column c.args.bar c.requires.col in
    let list = ap (filter_map (effect c.args.column low)) (simp to_z-of_z at c.events_between-list.ensures.events) in
    let all = effects-at w made c.requires.assets c.args.col c.requires.col c.args.column c.args.bar c.args.session low high c.day-bar_day.ensures.exact c.day-day.ensures.exact in
    let given = simp to_z-of_z at c.after_each.ensures.value in
    IfOk-weaker c.after_each.result _ _
    (λ v h. h ∙ ap (after_each c.get-cell.result) (list ∙ sym all) ∙ ap (λ x. after_each x (effects (world_of w) a c.args.column (pos c.args.bar) (pos c.args.session))) (c.get-cell.ensures.value ∙ raw)) given

pub returns-clause-cost : goal.returns-clause-cost
returns-clause-cost g c =
    let w = c.args.world.now in
    let bar_day : FitsSigned w32 c.day-bar_day.result = search rules in
    let day : FitsSigned w32 c.day-day.result = search rules in
    let low = c.day-bar_day.result in
    let high = c.day-day.result in
    let list = ap (filter_map (effect c.args.column low)) (simp to_z-of_z at c.events_between-list.ensures.events) in
    let all = effects-at w c.requires.made c.requires.assets c.args.col c.requires.col c.args.column c.args.bar c.args.session low high c.day-bar_day.ensures.exact c.day-day.ensures.exact in
    let given = simp to_z-of_z at c.after_each.ensures.cost in
    on_ok_weaker c.after_each.result (λ h. h ∙ ap (λ es. c.args.steps.now + step_count es) (list ∙ sym all)) given
