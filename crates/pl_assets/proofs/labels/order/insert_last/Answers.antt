use Rattle.std.proofs.Common.{◌≡◌, ◌∙◌, ◌+◌, ◌-◌, length, arith, sym}
use Rattle.std.specs.List.{insert}
use Rattle.pl_assets.specs.LabelPlaces.{IsOrder, KeyPoint, key_at}
use Rattle.pl_assets.proofs.LabelOrder.{key_there}
use Rattle.pl_assets.proofs.LabelTables.{order_put}
use Rattle.pl_assets.proofs.labels.order.insert_last.Goals as goal

pub returns : goal.returns
returns c =
    let n : length c.args.places.now ≡ (length c.args.places.now - 1) + 1 = omega (arith, c.requires.some) in
    let its_key : c.key_of.result ≡ key_at c.args.places.now (length c.args.places.now - 1) =
    c.key_of.ensures ∙ sym (key_there c.args.places.now (length c.args.places.now - 1) _ (omega (arith, c.requires.some))) in
    let point : KeyPoint c.args.places.now (key_at c.args.places.now (length c.args.places.now - 1)) c.args.order.now.items c.point_of-at.result = rw (c.deref.ensures.value, its_key) at c.point_of-at.ensures.point in
    let put : IsOrder c.args.places.now ((length c.args.places.now - 1) + 1) (insert c.args.order.now.items c.point_of-at.result (length c.args.places.now - 1)) =
    order_put c.args.places.now (length c.args.places.now - 1) c.args.order.now.items n c.requires.own c.requires.others c.point_of-at.result (rw c.deref.ensures.value at c.point_of-at.ensures.within) point in
    rw (← n, ← c.in-Ok.ensures.items) at put

pub point_of-at-requires : goal.point_of-at-requires
point_of-at-requires c = rw c.deref.ensures.value c.requires.others.ascend
