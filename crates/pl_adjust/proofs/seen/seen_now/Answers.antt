use Rattle.std.proofs.Common.{◌+◌, ◌∙◌, to_z, of_z, rules, arith, ap, drop, w32, w64, FitsSigned}
use Rattle.std.proofs.lemmas.Int.{to_z-of_z}
use Rattle.pl_spec.specs.Window.{after_all}
use Rattle.pl_adjust.specs.Events.{effects_of}
use Rattle.pl_adjust.proofs.Folds.{put_kept, seen_more, seen_all, count_more, count_all}
use Rattle.pl_adjust.proofs.seen.seen_now.Goals as goal

pub loop-adjust-preserved : goal.loop-adjust-preserved
loop-adjust-preserved g c =
    let column = c.args.column in
    let bar = c.args.bar_day in
    let list = c.between-adjust-items.result.now in
    let i = c.loop-adjust.adjust-index in
    let adjust = c.adjust-item.result in
    let cell : FitsSigned w64 c.args.cell = c.ranges.cell in
    let bar_day : FitsSigned w32 c.args.bar_day = c.ranges.bar_day in
    let cast = to_z w32 (of_z w32 c.args.bar_day) in
    let result : FitsSigned w64 c.adjusted-seen.result = search rules in
    let before = simp to_z-of_z at c.loop-adjust.invariant.seen in
    let value = simp to_z-of_z at c.adjusted-seen.ensures.value in
    let step = ap (λ v. after_all v (effects_of column bar (drop (i + 1) list))) value in
    let cost = c.adjusted-seen.ensures.cost in
    let more = count_more column cast list i adjust c.loop-adjust-test.true c.adjust-item.is in
    record {
      seen = simp to_z-of_z (step ∙ seen_more column bar _ list i adjust c.loop-adjust-test.true c.adjust-item.is ∙ before);
      cell = simp to_z-of_z c.adjusted-seen.ensures.cell;
      cost = omega (arith, more, cost, c.loop-adjust.invariant.cost);
    }

pub adjusted-seen-requires-clause-put : goal.adjusted-seen-requires-clause-put
adjusted-seen-requires-clause-put g c =
    let bar_day : FitsSigned w32 c.args.bar_day = c.ranges.bar_day in
    let day : FitsSigned w32 c.args.day = c.ranges.day in
    put_kept c.args.bar_day c.args.day c.args.list.now c.between-adjust-items.result.now c.loop-adjust.adjust-index c.adjust-item.result c.requires.cells
    (simp to_z-of_z at c.between-adjust-items.ensures) c.loop-adjust-test.true c.adjust-item.is

pub returns-clause-value : goal.returns-clause-value
returns-clause-value g c =
    let cell : FitsSigned w64 c.args.cell = c.ranges.cell in
    let bar_day : FitsSigned w32 c.args.bar_day = c.ranges.bar_day in
    let day : FitsSigned w32 c.args.day = c.ranges.day in
    let between = simp to_z-of_z at c.between-adjust-items.ensures in
    seen_all c.args.column c.args.bar_day c.args.bar_day c.args.day c.args.cell _ c.args.list.now _ c.loop-adjust.adjust-index c.loop-adjust-test.false between
    (simp to_z-of_z at c.loop-adjust.invariant.seen)

pub returns-clause-cost : goal.returns-clause-cost
returns-clause-cost g c =
    let bar_day : FitsSigned w32 c.args.bar_day = c.ranges.bar_day in
    let day : FitsSigned w32 c.args.day = c.ranges.day in
    let between = simp to_z-of_z at c.between-adjust-items.ensures in
    count_all c.args.column c.args.bar_day c.args.bar_day c.args.day _ c.args.steps.now c.args.list.now _ c.loop-adjust.adjust-index c.loop-adjust-test.false between (simp to_z-of_z at c.loop-adjust.invariant.cost)
