use Rattle.pl_laws.proofs.Permuted.{order-changes-nothing}
use Rattle.pl_world.specs.Worlds.{world_of}
use Rattle.pl_world.proofs.Moved.{show-alike}
use Rattle.pl_world.proofs.laws.order_changes_nothing.Goals as goal

pub returns : goal.returns
returns c same =
    let w = world_of c.args.world.now in
    let v = world_of c.args.other.now in
    let one = c.parts_make_a_world.ensures in
    let two = c.parts_make_a_world-2.ensures in
    show-alike w v one.world two.world (order-changes-nothing.all w v one.world two.world one.bars_once one.labels_once one.numbers_once same)
