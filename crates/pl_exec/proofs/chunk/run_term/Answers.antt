use Rattle.std.proofs.Common.{rules, ◌≡◌, ◌+◌, true, false, ap, ◌∙◌, sym, refl, max}
use Rattle.pl_pipeline.specs.Graph.{columns_at}
use Rattle.pl_planner.specs.Plans.{is_used, last_user, slot_of}
use Rattle.pl_exec.specs.Slotted.{left}
use Rattle.pl_exec.specs.Tasks.{IsArray, graph_in, kept_in}
use Rattle.pl_exec.specs.ChunkInputs.{task_of}
use Rattle.pl_exec.proofs.Mentions.{own_kept, apart_at, unread}
use Rattle.pl_exec.proofs.Releases.{held_is}
use Rattle.pl_exec.proofs.Living.{live_below, live_skipped, kept_skipped, left_at_first, left_at_last, one_counted}
use Rattle.pl_exec.proofs.chunk.run_term.Goals as goal

pub returns-then-not-is_used-clause-live : goal.returns-then-not-is_used-clause-live
returns-then-not-is_used-clause-live g c =
    let off : is_used c.args.chunk.now.plan.now c.args.k ≡ false = search rules in
    live_skipped (slot_of c.args.chunk.now.plan.now) (IsArray (task_of c.args.chunk.now)) (kept_in (task_of c.args.chunk.now) (c.args.k + 1)) c.args.k c.args.workspace.now (rw off refl)
    (live_below (slot_of c.args.chunk.now.plan.now) (IsArray (task_of c.args.chunk.now)) (kept_in (task_of c.args.chunk.now) c.args.k) (kept_in (task_of c.args.chunk.now) (c.args.k + 1)) c.args.k c.args.workspace.now (λ j h. kept_skipped (is_used c.args.chunk.now.plan.now) (last_user c.args.chunk.now.plan.now) c.args.k (unread (task_of c.args.chunk.now) c.requires.chunk.task c.args.k c.requires.term off) j) c.requires.live)

pub release_ended-requires-clause-live : goal.release_ended-requires-clause-live
release_ended-requires-clause-live g c =
    live_below (slot_of c.args.chunk.now.plan.now) (IsArray (task_of c.args.chunk.now)) (kept_in (task_of c.args.chunk.now) c.args.k) (left (is_used c.args.chunk.now.plan.now) (last_user c.args.chunk.now.plan.now) c.args.k 0) (c.args.k + 1) c.add_term-filled.new.workspace (λ j h. sym (left_at_first (is_used c.args.chunk.now.plan.now) (last_user c.args.chunk.now.plan.now) c.args.k j)) c.add_term-filled.ensures.live

pub release_ended-requires-clause-apart : goal.release_ended-requires-clause-apart
release_ended-requires-clause-apart g c =
    let used : is_used c.args.chunk.now.plan.now c.args.k ≡ true = search rules in
    λ i j a b l m e. apart_at (task_of c.args.chunk.now) c.requires.chunk.task c.args.k used i j a b (sym (left_at_first (is_used c.args.chunk.now.plan.now) (last_user c.args.chunk.now.plan.now) c.args.k i) ∙ l) (sym (left_at_first (is_used c.args.chunk.now.plan.now) (last_user c.args.chunk.now.plan.now) c.args.k j) ∙ m) e

pub release_ended-requires-clause-counted : goal.release_ended-requires-clause-counted
release_ended-requires-clause-counted g c =
    let used : is_used c.args.chunk.now.plan.now c.args.k ≡ true = search rules in
    one_counted (kept_in (task_of c.args.chunk.now) c.args.k) c.args.k (columns_at (graph_in (task_of c.args.chunk.now)) c.args.k) _ _ _ _ (own_kept (task_of c.args.chunk.now) c.requires.chunk.task c.args.k used) c.requires.live.count c.add_term-filled.ensures.live.count c.add_term-filled.ensures.peak

pub returns-clause-live : goal.returns-clause-live
returns-clause-live g c =
    live_below (slot_of c.args.chunk.now.plan.now) (IsArray (task_of c.args.chunk.now)) (left (is_used c.args.chunk.now.plan.now) (last_user c.args.chunk.now.plan.now) c.args.k (c.args.k + 1)) (kept_in (task_of c.args.chunk.now) (c.args.k + 1)) (c.args.k + 1) c.release_ended.new.workspace (λ j h. left_at_last (is_used c.args.chunk.now.plan.now) (last_user c.args.chunk.now.plan.now) c.args.k j h) c.release_ended.ensures.live

pub returns-clause-counted : goal.returns-clause-counted
returns-clause-counted g c = c.release_ended.ensures.counted

pub returns-clause-len : goal.returns-clause-len
returns-clause-len g c = c.release_ended.ensures.len ∙ c.add_term-filled.ensures.len

pub returns-clause-slots : goal.returns-clause-slots
returns-clause-slots g c = c.release_ended.ensures.slots ∙ c.add_term-filled.ensures.slots

pub returns-clause-cost : goal.returns-clause-cost
returns-clause-cost g c =
    let used : is_used c.args.chunk.now.plan.now c.args.k ≡ true = search rules in
    rw used c.add_term-filled.ensures.cost

pub returns-clause-applied : goal.returns-clause-applied
returns-clause-applied g c =
    let used : is_used c.args.chunk.now.plan.now c.args.k ≡ true = search rules in
    rw used c.add_term-filled.ensures.applied

pub returns-clause-peak : goal.returns-clause-peak
returns-clause-peak g c =
    let used : is_used c.args.chunk.now.plan.now c.args.k ≡ true = search rules in
    c.release_ended.ensures.peak ∙ c.add_term-filled.ensures.peak ∙ ap (max c.args.workspace.now.peak) (held_is (task_of c.args.chunk.now) c.requires.chunk.task c.args.k _ used c.requires.live.count)

pub returns-clause-held : goal.returns-clause-held
returns-clause-held g c =
    let used : is_used c.args.chunk.now.plan.now c.args.k ≡ true = search rules in
    c.add_term-filled.ensures.held ∙ held_is (task_of c.args.chunk.now) c.requires.chunk.task c.args.k _ used c.requires.live.count
