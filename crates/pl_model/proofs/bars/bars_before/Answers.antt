use Rattle.std.proofs.Common.{◌≡◌, ◌-◌, ◌++◌, ◌∷◌, [], ◌∙◌, pos, ap, sym, arith, rules, w64, FitsSigned}
use Rattle.pl_spec.specs.Rounding.{IsCell}
use Rattle.pl_spec.specs.Parts.{sid_at}
use Rattle.pl_spec.specs.Window.{seen_cell}
use Rattle.pl_spec.proofs.Windows.{downward-sessions}
use Rattle.pl_world.specs.Worlds.{world_of}
use Rattle.pl_model.proofs.Runs.{run, counted_all, steps_more}
use Rattle.pl_world.proofs.Windowing.{cells-more, all-more}
use Rattle.pl_model.proofs.bars.bars_before.Goals as goal

pub loop-bar_session-preserved : goal.loop-bar_session-preserved
loop-bar_session-preserved g c =
    let x = c.seen_cell.result in
    let fits : FitsSigned w64 c.seen_cell.result = search rules in
    let w = world_of c.args.world.now in
    let a = sid_at c.args.world.now.assets.now c.args.col in
    let d = c.args.span.session in
    let v = c.args.span.view in
    let first = c.args.span.session - c.args.span.size in
    let s = c.loop-bar_session.bar_session in
    let so_far = c.loop-bar_session.invariant in
    let pushed : c.push.new.self.items ≡ c.loop-bar_session.cells.items ++ c.seen_cell.result ∷ [] = search rules in
    let steps = steps_more w a c.args.column d v first s so_far.from in
    record {
      from = omega (arith, so_far.from);
      to = omega (arith, c.loop-bar_session-test.true);
      cells = cells-more (λ k. seen_cell w a c.args.column (pos k) (pos v)) (λ k. 0) first s so_far.from c.loop-bar_session.cells.items c.push.new.self.items x pushed so_far.cells c.seen_cell.ensures.value;
      all = all-more IsCell c.loop-bar_session.cells.items c.push.new.self.items x pushed so_far.all c.seen_cell.ensures.cell;
      cost = omega (arith, steps, so_far.cost, c.seen_cell.ensures.cost);
    }

pub returns-clause-value : goal.returns-clause-value
returns-clause-value g c =
    let w = world_of c.args.world.now in
    let a = sid_at c.args.world.now.assets.now c.args.col in
    let d = c.args.span.session in
    let v = c.args.span.view in
    let end : c.loop-bar_session.bar_session ≡ c.args.span.session = omega (arith, c.loop-bar_session-test.false, c.loop-bar_session.invariant.to) in
    let size : c.loop-bar_session.bar_session - (c.args.span.session - c.args.span.size) ≡ c.args.span.size = omega (arith, c.requires.size, end) in
    c.loop-bar_session.invariant.cells
    ∙ ap (λ n. run w a c.args.column d v (c.args.span.session - c.args.span.size) n) size
    ∙ sym (downward-sessions (λ s. seen_cell w a c.args.column s (pos v)) d c.args.span.size c.requires.size)

pub returns-clause-cost : goal.returns-clause-cost
returns-clause-cost g c =
    let w = world_of c.args.world.now in
    let a = sid_at c.args.world.now.assets.now c.args.col in
    let d = c.args.span.session in
    let v = c.args.span.view in
    let end : c.loop-bar_session.bar_session ≡ c.args.span.session = omega (arith, c.loop-bar_session-test.false, c.loop-bar_session.invariant.to) in
    counted_all w a c.args.column d v c.args.span.size c.loop-bar_session.bar_session _ _ end c.loop-bar_session.invariant.cost
