use Rattle.std.proofs.Common.{◌≤◌, ◌*◌, ◌+◌, ◌-◌, ◌∙◌, ap, sym, drop, length, arith}
use Rattle.std.proofs.lemmas.List.{length-drop, length-take-le, take_all}
use Rattle.pl_spec.specs.Limits.{saturated}
use Rattle.pl_exec.specs.Tasks.{assets_in, cell_in}
use Rattle.pl_exec.specs.ChunkInputs.{node_in, steps_of, task_in}
use Rattle.pl_exec.proofs.Courses.{course_array, lane_room, none_laned, one_laned}
use Rattle.pl_exec.proofs.Spans.{all_written}
use Rattle.pl_exec.proofs.Stands.{cut_two, steps_all, steps_more, steps_none}
use Rattle.pl_exec.proofs.fill.fill_bars.Goals as goal

pub loop-i-init : goal.loop-i-init
loop-i-init g c =
    let e = steps_none c.args.course.now.chunk.now c.args.course.now.term.0 (node_in c.args.course.now) in
    record { lanes = none_laned _ _ _ _; cost = omega (arith, e); applied = omega (arith, e) }

pub start_in-start-requires : goal.start_in-start-requires
start_in-start-requires g c =
    let within : (c.loop-i.i + 1) * c.args.course.now.count ≤ length c.loop-i.own = lane_room c.loop-i.i (assets_in (task_in c.args.course.now)) c.args.course.now.count (length c.loop-i.own) c.loop-i-test.true (omega (arith, c.requires.room, c.loop-i.auto.own)) in
    omega (arith, within)

pub fill_asset-more-requires-clause-run : goal.fill_asset-more-requires-clause-run
fill_asset-more-requires-clause-run g c = c.requires.run

pub fill_asset-more-requires-clause-lane : goal.fill_asset-more-requires-clause-lane
fill_asset-more-requires-clause-lane g c = record { course = c.requires.course; lent = c.sources_of-sources.ensures; asset = c.loop-i-test.true }

pub fill_asset-more-requires-clause-long : goal.fill_asset-more-requires-clause-long
fill_asset-more-requires-clause-long g c =
    let rest = length-drop c.start_in-start.result c.loop-i.own in
    length-take-le (c.start_in-start.result + c.args.course.now.count - c.start_in-start.result) (drop c.start_in-start.result c.loop-i.own) (omega (arith, rest, c.start_in-start.ensures.within)) ∙ omega arith

pub fill_asset-more-requires-clause-first : goal.fill_asset-more-requires-clause-first
fill_asset-more-requires-clause-first g c = λ some. let rows = c.requires.first some in omega (arith, rows, c.loop-i.auto.first)

pub fill_asset-more-requires-clause-second : goal.fill_asset-more-requires-clause-second
fill_asset-more-requires-clause-second g c = λ some. let rows = c.requires.second some in omega (arith, rows, c.loop-i.auto.second)

pub fill_asset-more-requires-clause-third : goal.fill_asset-more-requires-clause-third
fill_asset-more-requires-clause-third g c = λ some. let rows = c.requires.third some in omega (arith, rows, c.loop-i.auto.third)

pub loop-i-preserved : goal.loop-i-preserved
loop-i-preserved g c =
    let within : (c.loop-i.i + 1) * c.args.course.now.count ≤ length c.loop-i.own = lane_room c.loop-i.i (assets_in (task_in c.args.course.now)) c.args.course.now.count (length c.loop-i.own) c.loop-i-test.true (omega (arith, c.requires.room, c.loop-i.auto.own)) in
    let more = steps_more c.args.course.now.chunk.now c.args.course.now.term.0 (node_in c.args.course.now) c.loop-i.i c.loop-i-test.true in
    record {
      lanes = rw c.start_in-start.ensures.value (one_laned (cell_in (task_in c.args.course.now) c.args.course.now.term.0) c.args.course.now.low c.args.course.now.count c.loop-i.i _ c.loop-i.own c.fill_asset-more.new.out within c.loop-i.invariant.lanes c.fill_asset-more.ensures.out);
      cost = omega (arith, more, c.loop-i.invariant.cost, c.fill_asset-more.ensures.cost);
      applied = cut_two _ _ _ _ _ c.loop-i.invariant.applied c.fill_asset-more.ensures.applied c.saturating_add-applied.ensures ∙ ap saturated (sym more);
    }

pub returns-clause-array : goal.returns-clause-array
returns-clause-array g c =
    course_array c.args.course.now c.requires.course c.loop-i.own
    (all_written (cell_in (task_in c.args.course.now) c.args.course.now.term.0) c.args.course.now.low c.args.course.now.count (assets_in (task_in c.args.course.now)) c.loop-i.i c.args.course.now.count c.loop-i.own c.loop-i.invariant.lanes (omega (arith, c.loop-i-test.false)) (omega arith) (omega (arith, c.requires.room, c.loop-i.auto.own)))

pub returns-clause-cost : goal.returns-clause-cost
returns-clause-cost g c =
    let all = steps_all c.args.course.now.chunk.now c.args.course.now.workspace.now c.args.course.now.term.0 (node_in c.args.course.now) c.requires.run in
    let whole = ap (steps_of c.args.course.now.chunk.now c.args.course.now.term.0 (node_in c.args.course.now)) (take_all c.loop-i.i c.args.course.now.chunk.now.cols.now (omega (arith, c.loop-i-test.false))) in
    omega (arith, all, whole, c.loop-i.invariant.cost)

pub returns-clause-applied : goal.returns-clause-applied
returns-clause-applied g c =
    let all = steps_all c.args.course.now.chunk.now c.args.course.now.workspace.now c.args.course.now.term.0 (node_in c.args.course.now) c.requires.run in
    let whole = ap (steps_of c.args.course.now.chunk.now c.args.course.now.term.0 (node_in c.args.course.now)) (take_all c.loop-i.i c.args.course.now.chunk.now.cols.now (omega (arith, c.loop-i-test.false))) in
    c.loop-i.invariant.applied ∙ ap saturated (whole ∙ all)
