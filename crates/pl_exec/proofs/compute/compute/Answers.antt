use Rattle.std.proofs.Common.{◌≡◌, ◌≤◌, ◌*◌, ◌∙◌, refl, ap, sym, subst, arith, length}
use Rattle.std.specs.List.{length_refill}
use Rattle.pl_pipeline.specs.Graph.{columns_at}
use Rattle.pl_spec.specs.Limits.{saturated}
use Rattle.pl_terms.specs.Nodes.{node_of}
use Rattle.pl_exec.specs.declared.course.Course.{Course}
use Rattle.pl_exec.specs.Tasks.{IsArray, assets_in, graph_in}
use Rattle.pl_exec.specs.ChunkInputs.{new_before, task_in, task_of}
use Rattle.pl_exec.proofs.Levels.{column_run, count_is, filled_as, no_steps, whole_written}
use Rattle.pl_exec.proofs.compute.compute.Goals as goal

pub fill_columns-requires-clause-run : goal.fill_columns-requires-clause-run
fill_columns-requires-clause-run g c = column_run c.args.chunk.now c.requires.chunk c.args.id.0 (node_of c.node_of-node.result.now) c.node_of-node.ensures c.args.workspace.now c.requires.run (omega (arith, c.if-new_count-gt0.true, c.new_count.ensures.value))

pub fill_columns-requires-clause-free : goal.fill_columns-requires-clause-free
fill_columns-requires-clause-free g c = c.requires.free

pub fill_columns-requires-clause-columns : goal.fill_columns-requires-clause-columns
fill_columns-requires-clause-columns g c = c.requires.columns (let e = count_is c.args.chunk.now c.requires.chunk c.args.id.0 (node_of c.node_of-node.result.now) c.node_of-node.ensures in omega (arith, e, c.if-new_count-gt0.true, c.new_count.ensures.value))

pub fill_columns-requires-clause-room : goal.fill_columns-requires-clause-room
fill_columns-requires-clause-room g c = let same = ap length c.cells_mut.ensures.value in omega (arith, c.requires.room, same)

pub returns-then-new_count-gt0-clause-filled : goal.returns-then-new_count-gt0-clause-filled
returns-then-new_count-gt0-clause-filled g c =
    let e = count_is c.args.chunk.now c.requires.chunk c.args.id.0 (node_of c.node_of-node.result.now) c.node_of-node.ensures in
    let long = c.fill_columns.auto.own ∙ ap length c.cells_mut.ensures.value in
    filled_as (task_of c.args.chunk.now) c.args.id.0 _ _ c.args.workspace.now c.fill_columns.new.workspace c.fill_columns.new.own _ c.args.steps.now c.fill_columns.new.steps c.fill_columns.result (omega (arith, e)) (sym (whole_written c.args.own.now.cells c.fill_columns.new.own long)) c.fill_columns.ensures

pub fill_plain-requires-clause-none : goal.fill_plain-requires-clause-none
fill_plain-requires-clause-none g c =
    let e = count_is c.args.chunk.now c.requires.chunk c.args.id.0 (node_of c.node_of-node.result.now) c.node_of-node.ensures in
    let none : new_before (node_of c.node_of-node.result.now) 3 ≡ 0 = omega (arith, c.if-new_count-gt0.false, c.new_count.ensures.value) in
    subst (λ (x : Course). columns_at (graph_in (task_in x)) x.term.0 ≡ 0) (sym c.course_of-course.ensures.is) (omega (arith, e, none))

pub fill_plain-requires-clause-course : goal.fill_plain-requires-clause-course
fill_plain-requires-clause-course g c = c.course_of-course.ensures.course

pub fill_plain-requires-clause-room : goal.fill_plain-requires-clause-room
fill_plain-requires-clause-room g c =
    let same = ap length c.cells_mut-2.ensures.value in
    subst (λ (x : Course). assets_in (task_in x) * x.count ≤ length c.cells_mut-2.result.now) (sym c.course_of-course.ensures.is) (omega (arith, c.requires.room, same))

pub fill_plain-requires-clause-cross : goal.fill_plain-requires-clause-cross
fill_plain-requires-clause-cross g c = subst (λ (x : Course). assets_in (task_in x) ≤ c.args.cross.now) (sym c.course_of-course.ensures.is) c.requires.cross

pub fill_plain-requires-clause-rows : goal.fill_plain-requires-clause-rows
fill_plain-requires-clause-rows g c = subst (λ (x : Course). assets_in (task_in x) ≤ c.args.rows.now) (sym c.course_of-course.ensures.is) c.requires.rows

pub returns-then-new_count-gt0-clause-own : goal.returns-then-new_count-gt0-clause-own
returns-then-new_count-gt0-clause-own g c = (refl, sym (length_refill (length c.args.own.now.cells) c.args.own.now.cells c.fill_columns.new.own refl))

pub returns-clause-own : goal.returns-clause-own
returns-clause-own g c = (refl, sym (length_refill (length c.args.own.now.cells) c.args.own.now.cells c.fill_plain.new.own refl))

pub returns-clause-filled : goal.returns-clause-filled
returns-clause-filled g c =
    let e = count_is c.args.chunk.now c.requires.chunk c.args.id.0 (node_of c.node_of-node.result.now) c.node_of-node.ensures in
    let none : new_before (node_of c.node_of-node.result.now) 3 ≡ 0 = omega (arith, c.if-new_count-gt0.false, c.new_count.ensures.value) in
    let z = no_steps c.args.chunk.now c.requires.chunk c.args.id.0 (node_of c.node_of-node.result.now) c.node_of-node.ensures none in
    let long = c.fill_plain.auto.own ∙ ap length c.cells_mut-2.ensures.value in
    filled_as (task_of c.args.chunk.now) c.args.id.0 _ _ c.args.workspace.now c.args.workspace.now c.fill_plain.new.own _ c.args.steps.now c.args.steps.now _ (sym e) (sym (whole_written c.args.own.now.cells c.fill_plain.new.own long)) (record {
      array = subst (λ (x : Course). IsArray (task_in x) x.term.0 c.fill_plain.new.own) c.course_of-course.ensures.is c.fill_plain.ensures.array;
      slots = refl;
      len = refl;
      peak = omega (arith, none, c.requires.counted);
      held = omega (arith, none, c.live-held.ensures);
      cost = omega (arith, z);
      applied = ap saturated (sym z);
    })
