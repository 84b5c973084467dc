use Rattle.std.proofs.Common.{arith, ◌≡◌, ◌∙◌, ◌∷◌, ◌++◌, [], ap, w32}
use Rattle.std.proofs.lemmas.Int.{to_z-of_z}
use Rattle.std.proofs.lemmas.List.{length-append, length-map}
use Rattle.pl_assets.specs.Labels.{LabelTable, MayFollow, label_row, with_label}
use Rattle.pl_assets.specs.LabelPlaces.{row_at, shown_rows}
use Rattle.pl_assets.proofs.LabelTables.{own_keys, order_before, labels_more}
use Rattle.pl_assets.proofs.labels.Labels.add.Goals as goal

pub insert_last-requires-clause-some : goal.insert_last-requires-clause-some
insert_last-requires-clause-some c = rw (c.deref.ensures.value, c.in_ok-push.ensures.place) (omega (arith, length-append c.self.inside.rows.places.items (c.in_ok-push.field-0 ∷ [])))

pub insert_last-requires-clause-few : goal.insert_last-requires-clause-few
insert_last-requires-clause-few c =
    let old = c.self.inside.rows in
    let row = label_row c.args.assets.now c.args.name.now c.args.sid c.args.start c.args.label.now in
    let may : MayFollow (shown_rows old) row = rw (← c.self.view_is) at c.requires.row in
    rw (c.deref.ensures.value, c.in_ok-push.ensures.place) (omega (arith, may.room, length-map old.places.items (row_at old.names old.texts), length-append old.places.items (c.in_ok-push.field-0 ∷ [])))

pub insert_last-requires-clause-own : goal.insert_last-requires-clause-own
insert_last-requires-clause-own c =
    let old = c.self.inside.rows in
    let row = label_row c.args.assets.now c.args.name.now c.args.sid c.args.start c.args.label.now in
    let may : MayFollow (shown_rows old) row = rw (← c.self.view_is) at c.requires.row in
    let shown : shown_rows c.push.new.self ≡ shown_rows old ++ row ∷ [] = rw (c.column_of-col.ensures, to_z-of_z w32 c.args.start c.ranges.start) at c.in_ok-push.ensures.row in
    rw c.deref.ensures.value (own_keys c.push.new.self c.in_ok-push.ensures.numbered (labels_more old c.push.new.self row c.self.invariant.labels c.in_ok-push.ensures.numbered may shown c.in_ok-push.ensures.texts).once)

pub insert_last-requires-clause-others : goal.insert_last-requires-clause-others
insert_last-requires-clause-others c =
    rw c.deref.ensures.value (order_before c.self.inside.rows.places.items c.push.new.self.places.items _ c.self.inside.order.items c.reserve.new.self.items c.in_ok-push.ensures.place c.in_ok-reserve.ensures.items c.self.invariant.found)

pub invariant_of-self-2 : goal.invariant_of-self-2
invariant_of-self-2 c =
    let old = c.self.inside.rows in
    let row = label_row c.args.assets.now c.args.name.now c.args.sid c.args.start c.args.label.now in
    let may : MayFollow (shown_rows old) row = rw (← c.self.view_is) at c.requires.row in
    let shown : shown_rows c.push.new.self ≡ shown_rows old ++ row ∷ [] = rw (c.column_of-col.ensures, to_z-of_z w32 c.args.start c.ranges.start) at c.in_ok-push.ensures.row in
    record {
      numbered = c.in_ok-push.ensures.numbered;
      labels = labels_more old c.push.new.self row c.self.invariant.labels c.in_ok-push.ensures.numbered may shown c.in_ok-push.ensures.texts;
      found = rw c.deref.ensures.value at c.insert_last.ensures;
    }

pub returns-clause-texts : goal.returns-clause-texts
returns-clause-texts c = c.in_ok-push.ensures.texts ∙ ap (λ (t : LabelTable). with_label t.texts c.args.label.now) c.self.view_is
