use Rattle.std.proofs.Common.{◌≡◌, ◌<◌, refl, ap, sym, ◌∙◌, subst, arith, length}
use Rattle.std.specs.List.{length_refill}
use Rattle.pl_planner.specs.Plans.{column_slot}
use Rattle.pl_workspace.specs.Slots.{Slots}
use Rattle.pl_exec.specs.Filling.{node_for, task_for}
use Rattle.pl_exec.specs.ChunkInputs.{AreFree, new_column, one_new}
use Rattle.pl_exec.proofs.Levels.{before_next, below_three, counted_next, filled_as, filled_back, finish_in, free_next, from_end, from_none, is_live, rows_none, rows_one, run_next, slot_free}
use Rattle.pl_exec.proofs.compute.+fill_from.Goals as goal

pub fill_last-requires-clause-room : goal.fill_last-requires-clause-room
fill_last-requires-clause-room g t c = c.requires.room

pub fill_last-requires-clause-first : goal.fill_last-requires-clause-first
fill_last-requires-clause-first g t c = c.requires.cells.first 0 (omega (arith, c.if-place-eq3.true))

pub fill_last-requires-clause-second : goal.fill_last-requires-clause-second
fill_last-requires-clause-second g t c = c.requires.cells.second 1 (omega (arith, c.if-place-eq3.true))

pub fill_last-requires-clause-third : goal.fill_last-requires-clause-third
fill_last-requires-clause-third g t c = c.requires.cells.third 2 (omega (arith, c.if-place-eq3.true))

pub shape_of-cells-then-place-eq3 : goal.shape_of-cells-then-place-eq3
shape_of-cells-then-place-eq3 g t c = c.fill_last.auto.first

pub shape_of-cells-then-place-eq3-2 : goal.shape_of-cells-then-place-eq3-2
shape_of-cells-then-place-eq3-2 g t c = c.fill_last.auto.second

pub shape_of-cells-then-place-eq3-3 : goal.shape_of-cells-then-place-eq3-3
shape_of-cells-then-place-eq3-3 g t c = c.fill_last.auto.third

pub returns-then-place-eq3 : goal.returns-then-place-eq3
returns-then-place-eq3 g t c = filled_as (task_for c.args.term.now) c.args.term.now.id.0 0 _ c.args.workspace.now c.args.workspace.now c.fill_last.new.own _ c.args.steps.now c.fill_last.new.steps c.fill_last.result (from_end (node_for c.args.term.now) c.args.place c.if-place-eq3.true) refl c.fill_last.ensures

pub overflow_add-place : goal.overflow_add-place
overflow_add-place g t c = omega (arith, c.requires.place, c.if-place-eq3.false)

pub fill_from-requires : goal.fill_from-requires
fill_from-requires g t c =
    let none : one_new (new_column (node_for c.args.term.now) c.args.place) ≡ 0 = omega (arith, c.one_new.ensures.value, c.if-one_new-eq0.true) in
    let place : c.args.place < 3 = omega (arith, c.requires.place, c.if-place-eq3.false) in
    λ κs lives. (
      omega (arith, place),
      (
        lives,
        (
          c.requires.run,
          (
            omega (arith, place),
            (
              subst (AreFree (task_for c.args.term.now) c.args.workspace.now c.args.term.now.id.0) (let b = before_next (node_for c.args.term.now) c.args.place in omega (arith, b, none)) c.requires.free,
              (c.requires.counted, (c.requires.columns, (c.requires.room, rows_none c.args.term.now c.args.place c.args.cells.first.now c.args.cells.second.now c.args.cells.third.now _ c.requires.cells none))),
            ),
          ),
        ),
      ),
    )

pub shape_of-cells-then-one_new-eq0 : goal.shape_of-cells-then-one_new-eq0
shape_of-cells-then-one_new-eq0 g t c = refl

pub shape_of-cells-then-one_new-eq0-2 : goal.shape_of-cells-then-one_new-eq0-2
shape_of-cells-then-one_new-eq0-2 g t c = c.fill_from.auto.cells.0

pub shape_of-cells-then-one_new-eq0-3 : goal.shape_of-cells-then-one_new-eq0-3
shape_of-cells-then-one_new-eq0-3 g t c = c.fill_from.auto.cells.1.0

pub returns-then-one_new-eq0 : goal.returns-then-one_new-eq0
returns-then-one_new-eq0 g t c =
    let none : one_new (new_column (node_for c.args.term.now) c.args.place) ≡ 0 = omega (arith, c.one_new.ensures.value, c.if-one_new-eq0.true) in
    filled_as (task_for c.args.term.now) c.args.term.now.id.0 _ _ c.args.workspace.now c.fill_from.new.workspace c.fill_from.new.own _ c.args.steps.now c.fill_from.new.steps c.fill_from.result (from_none (node_for c.args.term.now) c.args.place none) refl c.fill_from.ensures

pub column_slot-slot-requires-clause-used : goal.column_slot-slot-requires-clause-used
column_slot-slot-requires-clause-used g t c = c.requires.run.run.used

pub column_slot-slot-requires-clause-within : goal.column_slot-slot-requires-clause-within
column_slot-slot-requires-clause-within g t c =
    let one : one_new (new_column (node_for c.args.term.now) c.args.place) ≡ 1 = omega (arith, c.one_new.ensures.value, c.one_new.ensures.few, c.if-one_new-eq0.false) in
    let place : c.args.place < 3 = omega (arith, c.requires.place, c.if-place-eq3.false) in
    let b = below_three c.args.term.now.chunk.now c.args.workspace.now c.args.term.now.id.0 (node_for c.args.term.now) c.requires.run c.args.place place one in
    omega (arith, b, c.new_count.ensures.value)

pub begin-column-requires : goal.begin-column-requires
begin-column-requires g t c =
    let one : one_new (new_column (node_for c.args.term.now) c.args.place) ≡ 1 = omega (arith, c.one_new.ensures.value, c.one_new.ensures.few, c.if-one_new-eq0.false) in
    let place : c.args.place < 3 = omega (arith, c.requires.place, c.if-place-eq3.false) in
    let slot = c.column_slot-slot.ensures ∙ ap (column_slot c.args.term.now.chunk.now.plan.now c.args.term.now.id.0) c.new_count.ensures.value in
    slot_free c.args.term.now.chunk.now c.args.workspace.now c.args.term.now.id.0 (node_for c.args.term.now) c.requires.run c.args.place place one c.requires.free c.column_slot-slot.result slot

pub overflow_add-place-2 : goal.overflow_add-place-2
overflow_add-place-2 g t c = omega (arith, c.requires.place, c.if-place-eq3.false)

pub fill_from-filled-requires : goal.fill_from-filled-requires
fill_from-filled-requires g t c =
    let one : one_new (new_column (node_for c.args.term.now) c.args.place) ≡ 1 = omega (arith, c.one_new.ensures.value, c.one_new.ensures.few, c.if-one_new-eq0.false) in
    let place : c.args.place < 3 = omega (arith, c.requires.place, c.if-place-eq3.false) in
    let slot = c.column_slot-slot.ensures ∙ ap (column_slot c.args.term.now.chunk.now.plan.now c.args.term.now.id.0) c.new_count.ensures.value in
    let same : c.begin-column.new.self.len ≡ c.args.workspace.now.len = ap (λ (x : Slots). x.len) c.begin-column.ensures.changed in
    let long : length c.cells_mut.result.now ≡ c.args.workspace.now.len = ap length c.cells_mut.ensures.value ∙ c.begin-column.ensures.cells in
    λ κs lives. (
      omega (arith, place),
      (
        lives,
        (
          run_next c.args.term.now.chunk.now c.args.workspace.now c.args.term.now.id.0 (node_for c.args.term.now) c.requires.run c.args.place place one c.requires.free c.column_slot-slot.result slot c.begin-column.new.self c.begin-column.ensures.changed,
          (
            omega (arith, place),
            (
              free_next c.args.term.now.chunk.now c.args.workspace.now c.args.term.now.id.0 (node_for c.args.term.now) c.requires.run c.args.place place one c.requires.free c.column_slot-slot.result slot c.begin-column.new.self c.begin-column.ensures.changed,
              (
                counted_next c.args.term.now.chunk.now c.args.workspace.now c.args.term.now.id.0 (node_for c.args.term.now) c.requires.run c.args.place place one c.requires.free c.column_slot-slot.result slot c.begin-column.new.self c.begin-column.ensures.changed,
                (omega (arith, c.requires.columns, same), (c.requires.room, rows_one c.args.term.now c.args.place c.args.cells.first.now c.args.cells.second.now c.args.cells.third.now _ c.requires.cells (omega (arith, c.requires.columns, long)))),
              ),
            ),
          ),
        ),
      ),
    )

pub finish-requires-clause-within : goal.finish-requires-clause-within
finish-requires-clause-within g t c =
    let one : one_new (new_column (node_for c.args.term.now) c.args.place) ≡ 1 = omega (arith, c.one_new.ensures.value, c.one_new.ensures.few, c.if-one_new-eq0.false) in
    let place : c.args.place < 3 = omega (arith, c.requires.place, c.if-place-eq3.false) in
    let slot = c.column_slot-slot.ensures ∙ ap (column_slot c.args.term.now.chunk.now.plan.now c.args.term.now.id.0) c.new_count.ensures.value in
    (finish_in c.args.term.now.chunk.now c.args.workspace.now c.args.term.now.id.0 (node_for c.args.term.now) c.requires.run c.args.place place one c.requires.free c.column_slot-slot.result slot c.begin-column.new.self c.begin-column.ensures.changed c.fill_from-filled.new.workspace c.fill_from-filled.new.own c.args.steps.now c.fill_from-filled.new.steps c.fill_from-filled.result c.fill_from-filled.ensures).0

pub finish-requires-clause-begun : goal.finish-requires-clause-begun
finish-requires-clause-begun g t c =
    let one : one_new (new_column (node_for c.args.term.now) c.args.place) ≡ 1 = omega (arith, c.one_new.ensures.value, c.one_new.ensures.few, c.if-one_new-eq0.false) in
    let place : c.args.place < 3 = omega (arith, c.requires.place, c.if-place-eq3.false) in
    let slot = c.column_slot-slot.ensures ∙ ap (column_slot c.args.term.now.chunk.now.plan.now c.args.term.now.id.0) c.new_count.ensures.value in
    (finish_in c.args.term.now.chunk.now c.args.workspace.now c.args.term.now.id.0 (node_for c.args.term.now) c.requires.run c.args.place place one c.requires.free c.column_slot-slot.result slot c.begin-column.new.self c.begin-column.ensures.changed c.fill_from-filled.new.workspace c.fill_from-filled.new.own c.args.steps.now c.fill_from-filled.new.steps c.fill_from-filled.result c.fill_from-filled.ensures).1

pub finish-requires-clause-same : goal.finish-requires-clause-same
finish-requires-clause-same g t c = c.begin-column.ensures.slot

pub finish-requires-clause-whole : goal.finish-requires-clause-whole
finish-requires-clause-whole g t c =
    sym (length_refill (length c.begin-column.result.cells) c.begin-column.result.cells _ refl) ∙ c.begin-column.ensures.cells
    ∙ sym (c.fill_from-filled.ensures.len ∙ ap (λ (x : Slots). x.len) c.begin-column.ensures.changed)

pub release-requires : goal.release-requires
release-requires g t c =
    let one : one_new (new_column (node_for c.args.term.now) c.args.place) ≡ 1 = omega (arith, c.one_new.ensures.value, c.one_new.ensures.few, c.if-one_new-eq0.false) in
    let place : c.args.place < 3 = omega (arith, c.requires.place, c.if-place-eq3.false) in
    let slot = c.column_slot-slot.ensures ∙ ap (column_slot c.args.term.now.chunk.now.plan.now c.args.term.now.id.0) c.new_count.ensures.value in
    (_, is_live c.args.term.now.chunk.now c.args.workspace.now c.args.term.now.id.0 (node_for c.args.term.now) c.requires.run c.args.place place one c.requires.free c.column_slot-slot.result slot c.begin-column.new.self c.begin-column.ensures.changed c.fill_from-filled.new.workspace c.fill_from-filled.new.own c.args.steps.now c.fill_from-filled.new.steps c.fill_from-filled.result c.fill_from-filled.ensures c.finish.new.self _ c.finish.ensures)

pub shape_of-cells-else-one_new-eq0 : goal.shape_of-cells-else-one_new-eq0
shape_of-cells-else-one_new-eq0 g t c = refl

pub shape_of-cells-else-one_new-eq0-2 : goal.shape_of-cells-else-one_new-eq0-2
shape_of-cells-else-one_new-eq0-2 g t c = c.fill_from-filled.auto.cells.0

pub shape_of-cells-else-one_new-eq0-3 : goal.shape_of-cells-else-one_new-eq0-3
shape_of-cells-else-one_new-eq0-3 g t c = c.fill_from-filled.auto.cells.1.0

pub returns : goal.returns
returns g t c =
    let one : one_new (new_column (node_for c.args.term.now) c.args.place) ≡ 1 = omega (arith, c.one_new.ensures.value, c.one_new.ensures.few, c.if-one_new-eq0.false) in
    let place : c.args.place < 3 = omega (arith, c.requires.place, c.if-place-eq3.false) in
    let slot = c.column_slot-slot.ensures ∙ ap (column_slot c.args.term.now.chunk.now.plan.now c.args.term.now.id.0) c.new_count.ensures.value in
    filled_back c.args.term.now.chunk.now c.args.workspace.now c.args.term.now.id.0 (node_for c.args.term.now) c.requires.run c.args.place place one c.requires.free c.column_slot-slot.result slot c.begin-column.new.self c.begin-column.ensures.changed c.fill_from-filled.new.workspace c.fill_from-filled.new.own c.args.steps.now c.fill_from-filled.new.steps c.fill_from-filled.result c.fill_from-filled.ensures c.finish.new.self _ c.finish.ensures c.release.new.self c.release.ensures
