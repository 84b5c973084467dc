use Rattle.std.proofs.Common.{◌≡◌, ◌≤◌, ◌*◌, ℕ, ℤ, List, ap, ◌+◌, ◌-◌, length, sym, ◌∙◌, subst, arith}
use Rattle.std.proofs.lemmas.List.{take_at}
use Rattle.std.proofs.lemmas.Nat.{mul-le}
use Rattle.pl_spec.specs.Limits.{saturated}
use Rattle.pl_table.specs.Tiles.{height, tile_len}
use Rattle.pl_runner.specs.Chunks.{columns_of}
use Rattle.pl_runner.specs.Room.{HasRoom}
use Rattle.pl_world.specs.Worlds.{world_of}
use Rattle.pl_terms.specs.Checked.{pipeline_of}
use Rattle.pl_exec.specs.Tasks.{HoldsOutputs, chunk_steps}
use Rattle.pl_runner.proofs.ChunkWork as work
use Rattle.pl_runner.proofs.run.write_chunk.Goals as goal

pub execute_chunk-report-requires : goal.execute_chunk-report-requires
execute_chunk-report-requires g c =
    let w = world_of c.args.asked.now.world in
    let p = pipeline_of c.args.asked.now.checked.now in
    let days = c.args.asked.now.world.sessions.now in
    let plan = c.args.asked.now.plan.now in
    let asked = c.requires.asked in
    let buffers = c.requires.buffers in
    let own = c.deref.ensures.value ∙ c.put_columns.ensures.cols in
    let few = work.few-columns days w p plan c.args.chunk asked.checked asked.plan c.requires.from c.requires.order c.requires.to c.deref.result.now own in
    record {
      made = asked.sound.made;
      plan = asked.plan;
      from = c.requires.from;
      order = c.requires.order;
      to = c.requires.to;
      cols = work.are-columns days w p plan c.args.chunk asked.checked asked.plan c.requires.from c.requires.order c.requires.to c.deref.result.now own asked.world.sids_ascend;
      cross = omega (arith, few, buffers.cross);
      rows = omega (arith, few, buffers.rows);
      free = buffers.free;
      slots = buffers.slots;
      room = work.has-room days w p plan c.args.chunk asked.checked asked.plan c.requires.from c.requires.order c.requires.to c.deref.result.now own c.args.buffers.now.workspace.len buffers.room;
    }

pub write_rows-requires : goal.write_rows-requires
write_rows-requires g c =
    let w = world_of c.args.asked.now.world in
    let p = pipeline_of c.args.asked.now.checked.now in
    let days = c.args.asked.now.world.sessions.now in
    let plan = c.args.asked.now.plan.now in
    let asked = c.requires.asked in
    let chunk = c.args.chunk in
    let cs = c.deref-2.result.now in
    let own : cs ≡ columns_of w p plan chunk = c.deref-2.ensures.value ∙ c.put_columns.ensures.cols in
    let same : c.deref.result.now ≡ cs = c.deref.ensures.value ∙ sym c.deref-2.ensures.value in
    let up = asked.world.sids_ascend in
    let cols = work.are-columns days w p plan chunk asked.checked asked.plan c.requires.from c.requires.order c.requires.to cs own up in
    let there = work.all-there days w p plan chunk asked.checked asked.plan c.requires.from c.requires.order c.requires.to cs own up in
    let few = work.few-columns days w p plan chunk asked.checked asked.plan c.requires.from c.requires.order c.requires.to cs own in
    let outputs = subst (λ xs. HoldsOutputs (work.work w p plan xs chunk) c.execute_chunk-report.new.workspace) same c.execute_chunk-report.ensures.outputs in
    let rows = mul-le (chunk.to + 1 - chunk.from) (length cs) (chunk.to + 1 - chunk.from) (length c.args.asked.now.world.assets.now) (omega arith) few in
    let cells = mul-le (height * length cs) (length p.columns + 1) (height * length w.assets) (length p.columns + 1) (omega (arith, few)) (omega arith) in
    record {
      outcome = record {
        asked = asked;
        from = c.requires.from;
        order = c.requires.order;
        to = c.requires.to;
        fits = omega (arith, c.requires.to, asked.plan.within, asked.sound.days.few);
        cols = cols.within;
        all = there;
        arrays = λ t out. let a = outputs.arrays t out in record { cells = a.cells; live = a.is; holds = a.holds };
      };
      room = omega (arith, cells, ap (λ (l : List ℤ). length l) c.deref_mut.ensures.value, c.requires.buffers.tile);
      few = omega (arith, rows, c.requires.few);
    }

pub returns-clause-done : goal.returns-clause-done
returns-clause-done g c =
    let w = world_of c.args.asked.now.world in
    let p = pipeline_of c.args.asked.now.checked.now in
    let len = c.release_outputs.ensures.len ∙ c.execute_chunk-report.ensures.len in
    let slots = c.release_outputs.ensures.slots ∙ c.execute_chunk-report.ensures.slots in
    let own = ap (λ (l : List ℤ). length l) c.deref_mut.ensures.value in
    let kept = c.in_ok-write_rows.ensures.room in
    let long : length c.write_rows.new.tile ≡ c.args.buffers.now.tile.len = kept ∙ c.deref_mut.ensures.len in
    let few = work.few-columns c.args.asked.now.world.sessions.now w p c.args.asked.now.plan.now c.args.chunk c.requires.asked.checked c.requires.asked.plan c.requires.from c.requires.order c.requires.to c.deref-2.result.now (c.deref-2.ensures.value ∙ c.put_columns.ensures.cols) in
    let m = mul-le (c.args.chunk.to + 1 - c.args.chunk.from) (length c.deref-2.result.now) (c.args.chunk.to + 1 - c.args.chunk.from) (length c.args.asked.now.world.assets.now) (omega arith) few in (
      c.in_ok-write_rows.ensures.pieces,
      record {
        rows = c.in_ok-write_rows.ensures.rows;
        sum = c.in_ok-write_rows.ensures.sum;
        few = omega (arith, m, c.in_ok-write_rows.ensures.few);
        buffers = λ other h. record {
          room = subst (HasRoom w p c.args.asked.now.plan.now other) (sym len) h.room;
          slots = omega (arith, slots, h.slots);
          free = c.release_outputs.ensures.free;
          cross = omega (arith, c.execute_chunk-report.ensures.cross, h.cross);
          rows = omega (arith, c.execute_chunk-report.ensures.rows, h.rows);
          cols = c.put_columns.ensures.room;
          tile = subst (λ (l : List ℤ). tile_len (length w.assets) (length p.columns) ≤ length l) (sym (take_at c.write_rows.new.tile _ c.args.buffers.now.tile.len long)) (omega (arith, own, kept, h.tile));
        };
        peak = c.execute_chunk-report.ensures.peak;
        applied = c.execute_chunk-report.ensures.applied ∙ ap (λ (cs : List ℕ). saturated (chunk_steps (work.work w p c.args.asked.now.plan.now cs c.args.chunk))) (c.deref.ensures.value ∙ c.put_columns.ensures.cols);
      },
    )
