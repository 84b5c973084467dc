use Rattle.std.proofs.Common.{◌≡◌, ◌+◌, ◌-◌, ◌∙◌, arith, subst, ap, length, length-take, length-drop, take, drop}
use Rattle.pl_exec.specs.ChunkInputs.{AreBars, AreStill, IsGivenOn, node_in, one_col}
use Rattle.pl_exec.proofs.Courses.{count_of}
use Rattle.pl_exec.proofs.Stands.{bars_begun, bars_go_on, bars_here, bars_later, bars_next}
use Rattle.pl_exec.proofs.Stretches.{kept_lane, more_given}
use Rattle.pl_exec.proofs.fill.walk_bars.Goals as goal

pub advance_all-requires : goal.advance_all-requires
advance_all-requires g c =
    let n = count_of c.args.lane.now.course.now c.requires.lane.course in
    bars_go_on c.args.lane.now.course.now.chunk.now c.args.lane.now.course.now.workspace.now c.args.lane.now.course.now.term.0 (node_in c.args.lane.now.course.now) c.requires.run (one_col c.args.lane.now.course.now.chunk.now c.args.lane.now.i) c.loop-done.done (omega (arith, n, c.loop-done-test.true, c.loop-done.auto.out, c.requires.long)) c.loop-done.bars c.loop-done.invariant.bars

pub fill_stretch-requires-clause-bars : goal.fill_stretch-requires-clause-bars
fill_stretch-requires-clause-bars g c =
    bars_here c.args.lane.now.course.now.chunk.now c.args.lane.now.course.now.workspace.now c.args.lane.now.course.now.term.0 (node_in c.args.lane.now.course.now) c.requires.run (one_col c.args.lane.now.course.now.chunk.now c.args.lane.now.i) c.loop-done.done _ c.advance_all.new.bars
    (bars_next c.args.lane.now.course.now.chunk.now c.args.lane.now.course.now.workspace.now c.args.lane.now.course.now.term.0 (node_in c.args.lane.now.course.now) c.requires.run (one_col c.args.lane.now.course.now.chunk.now c.args.lane.now.i) c.loop-done.done c.loop-done.bars c.advance_all.new.bars c.loop-done.invariant.bars c.advance_all.ensures.next)
    (ap (λ l. l + c.loop-done.done) c.requires.lane.course.low)

pub fill_stretch-requires-clause-still : goal.fill_stretch-requires-clause-still
fill_stretch-requires-clause-still g c =
    let n = c.still-more.result in
    let taken = length-take (c.loop-done.done + n + 1 - c.loop-done.done) (drop c.loop-done.done c.loop-done.out) in
    let dropped = length-drop c.loop-done.done c.loop-done.out in
    let e : n ≡ length (take (c.loop-done.done + n + 1 - c.loop-done.done) (drop c.loop-done.done c.loop-done.out)) - 1 = omega (arith, taken, dropped, c.still-more.ensures.few, c.loop-done-test.true) in
    subst (AreStill c.advance_all.new.bars) e c.still-more.ensures.still

pub loop-done-preserved : goal.loop-done-preserved
loop-done-preserved g c =
    let n = c.still-more.result in
    let taken = length-take (c.loop-done.done + n + 1 - c.loop-done.done) (drop c.loop-done.done c.loop-done.out) in
    let dropped = length-drop c.loop-done.done c.loop-done.out in
    let part : length (take (c.loop-done.done + n + 1 - c.loop-done.done) (drop c.loop-done.done c.loop-done.out)) ≡ n + 1 = omega (arith, taken, dropped, c.still-more.ensures.few, c.loop-done-test.true) in
    record {
      within = omega (arith, c.still-more.ensures.few, c.loop-done-test.true, c.loop-done.auto.out, c.requires.long);
      given = λ m h. more_given (λ k x. IsGivenOn c.args.lane.now.course.now c.args.lane.now.i k x) c.loop-done.out c.fill_stretch.new.out c.loop-done.done (n + 1) _ (omega (arith, c.loop-done-test.true)) (c.fill_stretch.ensures.long ∙ part)
          c.loop-done.invariant.given (λ k l. c.fill_stretch.ensures.values k (omega (arith, l, part))) m (omega (arith, h));
      bars = bars_later c.args.lane.now.course.now.chunk.now c.args.lane.now.course.now.workspace.now c.args.lane.now.course.now.term.0 (node_in c.args.lane.now.course.now) c.requires.run (one_col c.args.lane.now.course.now.chunk.now c.args.lane.now.i) c.loop-done.done n c.advance_all.new.bars c.pass.new.bars
          (bars_next c.args.lane.now.course.now.chunk.now c.args.lane.now.course.now.workspace.now c.args.lane.now.course.now.term.0 (node_in c.args.lane.now.course.now) c.requires.run (one_col c.args.lane.now.course.now.chunk.now c.args.lane.now.i) c.loop-done.done c.loop-done.bars c.advance_all.new.bars c.loop-done.invariant.bars c.advance_all.ensures.next)
          c.pass.ensures.next;
      cost = omega (arith, c.advance_all.ensures.cost, c.loop-done.invariant.cost, c.pass.ensures.cost);
    }

pub pass-requires-clause-begun : goal.pass-requires-clause-begun
pass-requires-clause-begun g c =
    bars_begun c.args.lane.now.course.now.chunk.now c.args.lane.now.course.now.workspace.now c.args.lane.now.course.now.term.0 (node_in c.args.lane.now.course.now) c.requires.run (one_col c.args.lane.now.course.now.chunk.now c.args.lane.now.i) c.loop-done.done c.advance_all.new.bars
    (bars_next c.args.lane.now.course.now.chunk.now c.args.lane.now.course.now.workspace.now c.args.lane.now.course.now.term.0 (node_in c.args.lane.now.course.now) c.requires.run (one_col c.args.lane.now.course.now.chunk.now c.args.lane.now.i) c.loop-done.done c.loop-done.bars c.advance_all.new.bars c.loop-done.invariant.bars c.advance_all.ensures.next)

pub returns-clause-out : goal.returns-clause-out
returns-clause-out g c =
    kept_lane c.args.lane.now.course.now c.requires.lane.course c.args.lane.now.i c.loop-done.out c.keep_lane.new.out
    (λ m h. c.loop-done.invariant.given m (omega (arith, h, c.loop-done-test.false, c.loop-done.auto.out, c.requires.long)))
    c.keep_lane.ensures.each
    (c.keep_lane.ensures.long ∙ c.loop-done.auto.out ∙ c.requires.long)

pub returns-clause-bars : goal.returns-clause-bars
returns-clause-bars g c =
    let e : c.loop-done.done ≡ c.args.lane.now.course.now.count = omega (arith, c.loop-done-test.false, c.loop-done.auto.out, c.loop-done.invariant.within, c.requires.long) in
    subst (λ m. AreBars c.args.lane.now.course.now.chunk.now c.args.lane.now.course.now.term.0 (node_in c.args.lane.now.course.now) (one_col c.args.lane.now.course.now.chunk.now c.args.lane.now.i) m c.loop-done.bars) e c.loop-done.invariant.bars
