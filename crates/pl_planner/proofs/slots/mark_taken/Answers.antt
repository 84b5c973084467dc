use Rattle.std.proofs.Common.{◌≡◌, ◌||◌, ap, ◌∙◌, get_or, false, arith}
use Rattle.pl_planner.specs.Uses.{is_kept}
use Rattle.pl_planner.specs.Slotting.{own_slot}
use Rattle.pl_planner.proofs.Slotted.{more_taken, none_taken}
use Rattle.pl_planner.proofs.slots.mark_taken.Goals as goal

pub loop-t-init : goal.loop-t-init
loop-t-init c = none_taken c.args.uses.now c.args.slots.now c.args.k c.args.taken.now c.requires.fresh

pub bounds-taken-slot-in-loop-t : goal.bounds-taken-slot-in-loop-t
bounds-taken-slot-in-loop-t c = let l = c.requires.few c.loop-t.t in let s = c.loop-t.invariant.size in omega arith

pub loop-t-preserved : goal.loop-t-preserved
loop-t-preserved c =
    let e : c.either.result ≡ (get_or c.loop-t.taken (own_slot c.args.slots.now c.loop-t.t) false || is_kept c.args.uses.now c.args.k c.loop-t.t)
    = c.either.ensures ∙ ap (λ b. get_or c.loop-t.taken (own_slot c.args.slots.now c.loop-t.t) false || b) c.is_kept.ensures in
    rw e (more_taken c.args.uses.now c.args.slots.now c.args.k c.loop-t.t c.loop-t.taken c.loop-t.invariant (c.requires.few c.loop-t.t))
