use Rattle.std.proofs.Common.{◌∙◌, ◌≡◌, ◌<◌, ◌^◌, ap, arith, w32}
use Rattle.std.proofs.lemmas.Int.{to_z-of_z}
use Rattle.pl_assets.specs.LabelPlaces.{key, KeyPoint}
use Rattle.pl_assets.proofs.LabelOrder.{none_started, other_started, found_last}
use Rattle.pl_assets.proofs.labels.order.last_started.Goals as goal
use Rattle.pl_assets.proofs.labels.order.last_started.Goals.{else-place-name-via-then-place-name+else-place-col, else-place-name-via-else-place-name}

pub returns-then-end-eq0 : goal.returns-then-end-eq0
returns-then-end-eq0 c =
    let small : c.args.col < 2 ^ 64 = c.ranges.col.fits in
    let its_key : c.key.result ≡ key c.args.name c.args.col c.args.day = c.key.ensures ∙ ap (key c.args.name c.args.col) (to_z-of_z w32 c.args.day c.ranges.day) in
    let point : KeyPoint c.args.rows.now.places.items (key c.args.name c.args.col c.args.day) c.args.order.now c.point_of-end.result = rw (c.deref.ensures.value, its_key) at c.point_of-end.ensures.point in
    none_started c.args.rows.now.places.items c.args.order.now c.args.rows.now.names c.args.rows.now.texts c.requires.numbered.places c.requires.order
    c.args.name c.args.col c.args.day small c.ranges.day c.point_of-end.result point c.if-end-eq0.true

pub returns-then-place-col : goal.returns-then-place-col
returns-then-place-col c =
    let small : c.args.col < 2 ^ 64 = c.ranges.col.fits in
    let its_key : c.key.result ≡ key c.args.name c.args.col c.args.day = c.key.ensures ∙ ap (key c.args.name c.args.col) (to_z-of_z w32 c.args.day c.ranges.day) in
    let point : KeyPoint c.args.rows.now.places.items (key c.args.name c.args.col c.args.day) c.args.order.now c.point_of-end.result = rw (c.deref.ensures.value, its_key) at c.point_of-end.ensures.point in
    let some : 0 < c.point_of-end.result = grind (arith, c.if-end-eq0.false) in
    found_last c.args.rows.now.places.items c.args.order.now c.args.rows.now.names c.args.rows.now.texts c.requires.numbered.places c.requires.order
    c.args.name c.args.col c.args.day small c.ranges.day c.point_of-end.result point c.index-place.result.now some c.point_of-end.ensures.within c.index-place.ensures
    c.if-place-name.true c.if-place-col.true

pub returns-else-place-name : goal.returns-else-place-name
returns-else-place-name c =
    let small : c.args.col < 2 ^ 64 = c.ranges.col.fits in
    let its_key : c.key.result ≡ key c.args.name c.args.col c.args.day = c.key.ensures ∙ ap (key c.args.name c.args.col) (to_z-of_z w32 c.args.day c.ranges.day) in
    let point : KeyPoint c.args.rows.now.places.items (key c.args.name c.args.col c.args.day) c.args.order.now c.point_of-end.result = rw (c.deref.ensures.value, its_key) at c.point_of-end.ensures.point in
    let some : 0 < c.point_of-end.result = grind (arith, c.if-end-eq0.false) in
    other_started c.args.rows.now.places.items c.args.order.now c.args.rows.now.names c.args.rows.now.texts c.requires.numbered.places c.requires.order
    c.args.name c.args.col c.args.day small c.ranges.day c.point_of-end.result point c.index-place.result.now some c.point_of-end.ensures.within c.index-place.ensures
    (λ same_name same_col. elim c.else-place-name.branch [
      | else-place-name-via-then-place-name+else-place-col w ↦ w.if-place-col.false same_col
      | else-place-name-via-else-place-name w ↦ w.if-place-name.false same_name
    ])

pub point_of-end-requires : goal.point_of-end-requires
point_of-end-requires c = rw c.deref.ensures.value c.requires.order.ascend
