use Rattle.std.proofs.Common.{◌≡◌, ◌<◌, ◌+◌, ◌++◌, ◌∷◌, [], sym, length, arith, subst, rules}
use Rattle.std.proofs.lemmas.List.{length_push}
use Rattle.pl_planner.specs.Slotting.{IsSlotted}
use Rattle.pl_planner.proofs.Slotted.{more_slotted}
use Rattle.pl_planner.proofs.slots.slot_terms.Goals as goal

pub loop-k-preserved : goal.loop-k-preserved
loop-k-preserved c =
    let items : c.push.new.self.items ≡ c.loop-k.slots.items ++ c.slot_term.result ∷ [] = c.in_ok-push.ensures.items in
    let size : length c.loop-k.slots.items ≡ c.loop-k.k = c.loop-k.invariant.size in
    let less : c.loop-k.k < length c.args.uses.now = search rules in
    let few = c.requires in
    let lent = c.deref.ensures.value in
    let is : IsSlotted c.args.uses.now c.loop-k.slots.items (length c.loop-k.slots.items) c.slot_term.result = subst (λ k. IsSlotted c.args.uses.now c.loop-k.slots.items k c.slot_term.result) (sym size) (rw lent at c.slot_term.ensures) in
    let long : length (c.loop-k.slots.items ++ c.slot_term.result ∷ []) ≡ length c.loop-k.slots.items + 1 = length_push c.loop-k.slots.items c.slot_term.result in
    rw items (record {
      slotted = more_slotted c.args.uses.now c.loop-k.slots.items c.slot_term.result (omega arith) c.loop-k.invariant.slotted is;
      size = omega arith;
    })
