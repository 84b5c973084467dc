use Rattle.std.proofs.Common.{ap, arith, length}
use Rattle.pl_terms.proofs.Graphs.{graph-long}
use Rattle.pl_planner.specs.Plans.{slot_of}
use Rattle.pl_values.proofs.Given.{texts-coded}
use Rattle.pl_exec.specs.Chunks.{task}
use Rattle.pl_exec.specs.Tasks.{IsArray, kept_in}
use Rattle.pl_exec.proofs.Living.{none_yet, none_counted}
use Rattle.pl_exec.proofs.Sids.{few_cols, sids_up}
use Rattle.pl_exec.proofs.chunk.execute_chunk.Goals as goal

pub run_terms-requires-clause-chunk : goal.run_terms-requires-clause-chunk
run_terms-requires-clause-chunk g c = record {
  made = c.parts_make_a_world.ensures;
  labels = c.parts_make_a_world.ensures.sound.labels;
  few = (let f = few_cols c.args.cols.now (length c.args.world.now.assets.now) c.requires.cols.ascend c.requires.cols.within in omega (arith, f, c.parts_make_a_world.ensures.sound.assets.few));
  fits = omega (arith, c.requires.to, c.requires.plan.within, c.parts_make_a_world.ensures.sound.days.few);
  terms = (let l = graph-long c.args.checked.now.graph in let e = ap (λ g. length g) c.graph.ensures.value in omega (arith, l, e, c.len.ensures.value, c.len.ensures.few));
  task = (record {
    checked = c.graph.ensures.checked;
    plan = c.requires.plan;
    from = c.requires.from;
    order = c.requires.order;
    to = c.requires.to;
    columns = c.requires.cols;
    up = sids_up c.args.world.now.assets.now c.parts_make_a_world.ensures.parts.sids_ascend c.args.cols.now c.requires.cols.ascend c.requires.cols.within;
    days = c.parts_make_a_world.ensures.parts.days_ascend;
    texts = texts-coded c.args.world.now.sessions.now c.args.world.now.assets.now c.args.world.now.labels.now c.args.world.now.bars.now c.args.world.now.adjustments.now c.args.world.now.numbers.now.rows c.parts_make_a_world.ensures.sound.labels;
  });
}

pub run_terms-requires-clause-live : goal.run_terms-requires-clause-live
run_terms-requires-clause-live g c =
    none_yet (slot_of c.args.plan.now) (IsArray (task c.args.world.now c.args.checked.now c.args.plan.now c.args.chunk.now c.args.cols.now)) (kept_in (task c.args.world.now c.args.checked.now c.args.plan.now c.args.chunk.now c.args.cols.now) 0) c.args.workspace.now c.requires.free (none_counted c.args.workspace.now.slots c.requires.free)

pub run_terms-requires-clause-counted : goal.run_terms-requires-clause-counted
run_terms-requires-clause-counted g c = let z = none_counted c.args.workspace.now.slots c.requires.free in omega (arith, z)
