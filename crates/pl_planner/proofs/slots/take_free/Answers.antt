use Rattle.std.proofs.Common.{arith, ◌<◌, length, length-set, refl, true}
use Rattle.pl_planner.proofs.Slotted.{front_taken, one_taken}
use Rattle.pl_planner.proofs.slots.take_free.Goals as goal

pub bounds-taken-slot : goal.bounds-taken-slot
bounds-taken-slot c = omega (arith, front_taken c.args.taken.now c.first_free-slot.result c.first_free-slot.ensures.before, c.requires)

pub returns : goal.returns
returns c =
    let slot = c.first_free-slot.result in
    let free = c.first_free-slot.ensures.free in
    let before = c.first_free-slot.ensures.before in
    let inside : slot < length c.args.taken.now = omega (arith, front_taken c.args.taken.now slot before, c.requires) in
    record { before = before; free = free; taken = refl; count = one_taken c.args.taken.now slot inside free; size = length-set c.args.taken.now slot true }
