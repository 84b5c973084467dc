use Rattle.std.proofs.Common.{ap, ◌∙◌, arith, get_or, length}
use Rattle.pl_pipeline.specs.Graph.{columns_at}
use Rattle.pl_planner.specs.Plans.{slot_of}
use Rattle.pl_workspace.specs.Slots.{Slots, Free, Begun, Live, live_count, slot_at, with_slot}
use Rattle.pl_exec.specs.Tasks.{IsArray, graph_in, kept_in}
use Rattle.pl_exec.specs.ChunkInputs.{task_of}
use Rattle.pl_exec.proofs.Mentions.{own_free, run_begun, columns_free, slot_within, own_kept, apart_at}
use Rattle.pl_exec.proofs.Releases.{few_columns}
use Rattle.pl_exec.proofs.Living.{one_more}
use Rattle.pl_exec.proofs.Trips.{long, now_used, stay_peak, there}
use Rattle.pl_exec.proofs.chunk.add_term.Goals as goal

pub begin-own-requires : goal.begin-own-requires
begin-own-requires g c = ap (slot_at c.args.workspace.now) c.slot-slot.ensures.value ∙ own_free (task_of c.args.chunk.now) c.requires.chunk.task c.args.workspace.now c.args.term.0 c.requires.live c.requires.used c.requires.slots

pub compute-filled-requires-clause-run : goal.compute-filled-requires-clause-run
compute-filled-requires-clause-run g c = run_begun (task_of c.args.chunk.now) c.requires.chunk.task c.args.workspace.now c.args.term.0 c.requires.live c.requires.used c.requires.slots c.begin-own.new.self (c.begin-own.ensures.changed ∙ ap (λ s. with_slot c.args.workspace.now s Begun) c.slot-slot.ensures.value)

pub compute-filled-requires-clause-free : goal.compute-filled-requires-clause-free
compute-filled-requires-clause-free g c = columns_free (task_of c.args.chunk.now) c.requires.chunk.task c.args.workspace.now c.args.term.0 c.requires.live c.requires.used c.requires.slots c.begin-own.new.self (c.begin-own.ensures.changed ∙ ap (λ s. with_slot c.args.workspace.now s Begun) c.slot-slot.ensures.value) (few_columns (graph_in (task_of c.args.chunk.now)) c.requires.chunk.task.checked.graph c.args.term.0)

pub compute-filled-requires-clause-counted : goal.compute-filled-requires-clause-counted
compute-filled-requires-clause-counted g c =
    let peak = ap (λ (x : Slots). x.peak) c.begin-own.ensures.changed in
    let live = ap (λ (x : Slots). live_count x.slots) c.begin-own.ensures.changed in
    omega (arith, peak, live)

pub compute-filled-requires-clause-columns : goal.compute-filled-requires-clause-columns
compute-filled-requires-clause-columns g c = λ some.
    let room = c.requires.room.columns c.args.term.0 c.requires.used some in
    let len = ap (λ (x : Slots). x.len) c.begin-own.ensures.changed in
    omega (arith, room, len)

pub compute-filled-requires-clause-room : goal.compute-filled-requires-clause-room
compute-filled-requires-clause-room g c = let room = c.requires.room.terms c.args.term.0 c.requires.used in omega (arith, room, c.begin-own.ensures.cells)

pub finish-requires-clause-within : goal.finish-requires-clause-within
finish-requires-clause-within g c =
    let begun = long c.args.workspace.now c.begin-own.new.self _ _ c.begin-own.ensures.changed in
    let same = ap (λ l. length l) c.compute-filled.ensures.filled.slots in
    omega (arith, begun, same, c.slot-slot.ensures.within, c.requires.slots)

pub finish-requires-clause-begun : goal.finish-requires-clause-begun
finish-requires-clause-begun g c =
    ap (λ l. get_or l c.slot-slot.result Begun) c.compute-filled.ensures.filled.slots
    ∙ there c.args.workspace.now c.begin-own.new.self c.slot-slot.result Begun c.begin-own.ensures.changed (omega (arith, c.slot-slot.ensures.within, c.requires.slots))

pub returns-clause-live : goal.returns-clause-live
returns-clause-live g c =
    one_more (slot_of c.args.chunk.now.plan.now) (IsArray (task_of c.args.chunk.now)) (kept_in (task_of c.args.chunk.now) c.args.term.0) c.args.term.0 (columns_at (graph_in (task_of c.args.chunk.now)) c.args.term.0)
    c.args.workspace.now c.begin-own.new.self c.compute-filled.new.workspace c.finish.new.self c.compute-filled.new.own.cells c.requires.live (own_kept (task_of c.args.chunk.now) c.requires.chunk.task c.args.term.0 c.requires.used) (apart_at (task_of c.args.chunk.now) c.requires.chunk.task c.args.term.0 c.requires.used)
    (slot_within (task_of c.args.chunk.now) c.requires.chunk.task c.args.workspace.now c.args.term.0 c.requires.live c.requires.used c.requires.slots) (c.begin-own.ensures.changed ∙ ap (λ s. with_slot c.args.workspace.now s Begun) c.slot-slot.ensures.value) c.compute-filled.ensures.filled.slots c.compute-filled.ensures.filled.peak (c.finish.ensures ∙ ap (λ s. with_slot c.compute-filled.new.workspace s (Live c.compute-filled.new.own.cells)) c.slot-slot.ensures.value) c.compute-filled.ensures.filled.array

pub returns-clause-peak : goal.returns-clause-peak
returns-clause-peak g c =
    stay_peak c.args.workspace.now c.begin-own.new.self c.compute-filled.new.workspace c.finish.new.self (slot_of c.args.chunk.now.plan.now c.args.term.0) (columns_at (graph_in (task_of c.args.chunk.now)) c.args.term.0) c.compute-filled.new.own.cells
    (own_free (task_of c.args.chunk.now) c.requires.chunk.task c.args.workspace.now c.args.term.0 c.requires.live c.requires.used c.requires.slots) (slot_within (task_of c.args.chunk.now) c.requires.chunk.task c.args.workspace.now c.args.term.0 c.requires.live c.requires.used c.requires.slots) (c.begin-own.ensures.changed ∙ ap (λ s. with_slot c.args.workspace.now s Begun) c.slot-slot.ensures.value) c.compute-filled.ensures.filled.slots c.compute-filled.ensures.filled.peak (c.finish.ensures ∙ ap (λ s. with_slot c.compute-filled.new.workspace s (Live c.compute-filled.new.own.cells)) c.slot-slot.ensures.value)

pub returns-clause-held : goal.returns-clause-held
returns-clause-held g c =
    let u = now_used c.args.workspace.now c.begin-own.new.self (slot_of c.args.chunk.now.plan.now c.args.term.0) Begun Free (c.begin-own.ensures.changed ∙ ap (λ s. with_slot c.args.workspace.now s Begun) c.slot-slot.ensures.value) (own_free (task_of c.args.chunk.now) c.requires.chunk.task c.args.workspace.now c.args.term.0 c.requires.live c.requires.used c.requires.slots) (slot_within (task_of c.args.chunk.now) c.requires.chunk.task c.args.workspace.now c.args.term.0 c.requires.live c.requires.used c.requires.slots) in
    omega (arith, u, c.compute-filled.ensures.filled.held)

pub returns-clause-cost : goal.returns-clause-cost
returns-clause-cost g c = c.compute-filled.ensures.filled.cost

pub returns-clause-applied : goal.returns-clause-applied
returns-clause-applied g c = c.compute-filled.ensures.filled.applied

pub returns-clause-slots : goal.returns-clause-slots
returns-clause-slots g c = long c.compute-filled.new.workspace c.finish.new.self _ _ c.finish.ensures ∙ ap (λ l. length l) c.compute-filled.ensures.filled.slots ∙ long c.args.workspace.now c.begin-own.new.self _ _ c.begin-own.ensures.changed

pub returns-clause-len : goal.returns-clause-len
returns-clause-len g c = ap (λ (x : Slots). x.len) c.finish.ensures ∙ c.compute-filled.ensures.filled.len ∙ ap (λ (x : Slots). x.len) c.begin-own.ensures.changed
