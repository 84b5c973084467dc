use Rattle.std.proofs.Common.{◌≡◌, ◌+◌, ◌<◌, ◌≤◌, [], ◌∷◌, length, rules, arith, pos, ap, refl, ◌∙◌, get_or, option_to_list, FitsSigned, w64, w32}
use Rattle.std.proofs.lemmas.Int.{to_z-of_z}
use Rattle.std.proofs.lemmas.List.Elements.{All-set}
use Rattle.pl_spec.specs.Rounding.{IsCell}
use Rattle.pl_spec.specs.Window.{after_all, effect}
use Rattle.pl_adjust.specs.Events.{event_of}
use Rattle.pl_daily.specs.Rings.{known_days, scaling}
use Rattle.pl_daily.proofs.Cells.{begins, begun_more, next_cell, steps_one, all_begun, length-changed, length-known, cost_none, cost_next, cost_all}
use Rattle.pl_daily.proofs.events.change_cells.Goals as goal

pub loop-i-init : goal.loop-i-init
loop-i-init g c = record {
  from = omega arith;
  begun = begins c.args.column (event_of c.args.event.now.adjust ∷ []) c.args.fed c.args.days.now c.args.cells.now _ c.requires.days (omega (arith, c.min.ensures));
  cells = c.requires.cells;
  cost = cost_none c.args.steps.now (length (scaling c.args.column (c.args.event.now ∷ []))) _;
}

pub loop-i-preserved : goal.loop-i-preserved
loop-i-preserved g c =
    let i = c.loop-i.i in
    let e = event_of c.args.event.now.adjust in
    let bar : FitsSigned w32 (get_or c.args.days.now i (pos 0)) = search rules in
    let old : FitsSigned w64 (get_or c.loop-i.cells i (pos 0)) = search rules in
    let fits : FitsSigned w64 c.adjusted-cell.result = search rules in
    let put = simp to_z-of_z at c.put.ensures in
    let value = simp to_z-of_z at c.adjusted-cell.ensures.value in
    let inside : i < length c.args.cells.now = c.loop-i-test.true in
    let late : length c.args.cells.now ≤ i + c.args.fed = omega (arith, c.loop-i.invariant.from, c.min.ensures) in
    let is = value
    ∙ ap (λ y. after_all y (option_to_list (effect c.args.column (get_or c.args.days.now i (pos 0)) e))) (c.loop-i.invariant.begun.rest i (omega arith))
    ∙ next_cell c.args.column e c.args.fed c.args.days.now c.args.cells.now i c.requires.days inside late in
    record {
      from = omega (arith, c.loop-i.invariant.from);
      begun = rw put (begun_more _ i c.args.cells.now c.loop-i.cells c.adjusted-cell.result c.loop-i.invariant.begun inside is);
      cells = rw put (All-set IsCell c.loop-i.cells i c.adjusted-cell.result c.adjusted-cell.ensures.cell c.loop-i.invariant.cells);
      cost = cost_next c.args.steps.now c.loop-i.steps c.adjusted-cell.new.steps (length (scaling c.args.column (c.args.event.now ∷ []))) i _
          (c.adjusted-cell.ensures.cost ∙ ap (λ n. c.loop-i.steps + n) (steps_one c.args.column _ c.args.event.now)) c.loop-i.invariant.cost c.loop-i.invariant.from;
    }

pub returns-clause-value : goal.returns-clause-value
returns-clause-value g c =
    let days = known_days c.args.fed c.args.days.now in
    let same : length days ≡ length c.args.cells.now = length-known c.args.fed c.args.days.now ∙ c.requires.days in
    all_begun _ c.loop-i.i c.args.cells.now c.loop-i.cells c.loop-i.invariant.begun (length-changed c.args.column (event_of c.args.event.now.adjust ∷ []) days c.args.cells.now same)
    (omega (arith, c.loop-i-test.false, c.loop-i.auto.i-end, c.min.ensures))

pub returns-clause-cost : goal.returns-clause-cost
returns-clause-cost g c =
    cost_all c.args.steps.now c.loop-i.steps (length (scaling c.args.column (c.args.event.now ∷ []))) c.loop-i.i _ (length c.args.cells.now) c.min.result c.args.fed c.loop-i.invariant.cost
    (omega (arith, c.loop-i-test.false, c.loop-i.auto.i-end, c.min.ensures)) refl c.min.ensures
