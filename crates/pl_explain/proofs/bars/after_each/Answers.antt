use Rattle.std.proofs.Common.{◌+◌, refl, ap, drop, arith, rules, to_z, of_z, w32, w64, FitsSigned}
use Rattle.std.proofs.lemmas.Int.{to_z-of_z}
use Rattle.pl_spec.specs.Window.{effect, step_count}
use Rattle.pl_adjust.proofs.Folds.{put_at, count_more}
use Rattle.pl_adjust.specs.Events.{effects_of, event_of}
use Rattle.pl_explain.proofs.Growing.{grown-by, grown-all, left-from, left-end}
use Rattle.pl_explain.proofs.bars.after_each.Goals as goal

pub push_changed-requires-clause-put : goal.push_changed-requires-clause-put
push_changed-requires-clause-put g c = put_at c.args.list.now c.loop-adjust.adjust-index c.adjust-item.result c.requires.put c.loop-adjust-test.true c.adjust-item.is

pub loop-adjust-preserved : goal.loop-adjust-preserved
loop-adjust-preserved g c =
    let cell : FitsSigned w64 c.args.cell = c.ranges.cell in
    let bar_day : FitsSigned w32 c.args.bar_day = c.ranges.bar_day in
    let seen : FitsSigned w64 c.in_ok-seen.seen = search rules in
    let list = c.args.list.now in
    let i = c.loop-adjust.adjust-index in
    let a = c.adjust-item.result in
    let before = simp to_z-of_z at c.loop-adjust.invariant.grown in
    let left = left-from c.args.column c.args.bar_day list i a (effect c.args.column c.args.bar_day (event_of a)) c.loop-adjust-test.true c.adjust-item.is refl in
    let grows = simp to_z-of_z at c.in_ok-seen.ensures.value in
    record {
      grown = simp to_z-of_z (grown-by c.args.cell (effects_of c.args.column c.args.bar_day list) c.loop-adjust.cells.items c.push_changed.new.cells.items _ c.in_ok-seen.seen
          (effect c.args.column c.args.bar_day (event_of a)) (effects_of c.args.column c.args.bar_day (drop i list)) (effects_of c.args.column c.args.bar_day (drop (i + 1) list)) before left grows);
      cell = simp to_z-of_z c.in_ok-seen.ensures.cell;
      cells = c.in_ok-seen.ensures.cells;
      cost = omega (arith, count_more c.args.column (to_z w32 (of_z w32 c.args.bar_day)) list i a c.loop-adjust-test.true c.adjust-item.is, c.in_ok-seen.ensures.cost, c.loop-adjust.invariant.cost);
    }

pub returns-clause-value : goal.returns-clause-value
returns-clause-value g c =
    let cell : FitsSigned w64 c.args.cell = c.ranges.cell in
    let bar_day : FitsSigned w32 c.args.bar_day = c.ranges.bar_day in
    grown-all c.args.cell (effects_of c.args.column c.args.bar_day c.args.list.now) c.loop-adjust.cells.items _ _ (simp to_z-of_z at c.loop-adjust.invariant.grown)
    (left-end c.args.column c.args.bar_day c.args.list.now c.loop-adjust.adjust-index c.loop-adjust-test.false)

pub returns-clause-cost : goal.returns-clause-cost
returns-clause-cost g c =
    let bar_day : FitsSigned w32 c.args.bar_day = c.ranges.bar_day in
    let cost = simp to_z-of_z at c.loop-adjust.invariant.cost in
    let none = ap step_count (left-end c.args.column c.args.bar_day c.args.list.now c.loop-adjust.adjust-index c.loop-adjust-test.false) in
    omega (arith, none, cost)
