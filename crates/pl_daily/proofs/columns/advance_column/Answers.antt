use Rattle.std.proofs.Common.{◌≡◌, ◌+◌, ◌-◌, ◌*◌, min, length, take, drop, arith, ap, sym, ◌∙◌, subst, take_all, length-drop, List, ℤ, ℕ, ◌≤◌}
use Rattle.pl_daily.specs.Rings.{scaling}
use Rattle.pl_daily.specs.Changes.{Ring, AreRings, FollowBars}
use Rattle.pl_daily.proofs.Advances.{vec_back}
use Rattle.pl_daily.proofs.columns.advance_column.Goals as goal

part_is : (xs : List ℤ) (n : ℕ) → take (length xs - (length xs - n)) (drop (length xs - n) xs) ≡ drop (length xs - n) xs
part_is xs n = let l = length-drop (length xs - n) xs in take_all (length xs - (length xs - n)) (drop (length xs - n) xs) (omega (arith, l))

part_long : (xs : List ℤ) (n : ℕ) → n ≤ length xs → length (take (length xs - (length xs - n)) (drop (length xs - n) xs)) ≡ n
part_long xs n h = let l = length-drop (length xs - n) xs in ap length (part_is xs n) ∙ omega (arith, l, h)

pub advance_rings-requires-clause-rings : goal.advance_rings-requires-clause-rings
advance_rings-requires-clause-rings g c =
    subst (λ n. AreRings (length c.args.row.now) n c.deref_mut.result.now) (sym (part_long c.args.calendar.now c.args.rings.now.capacity c.requires.fits))
    (subst (AreRings (length c.args.row.now) c.args.rings.now.capacity) (sym c.deref_mut.ensures.value) c.requires.rings)

pub returns-clause-follow : goal.returns-clause-follow
returns-clause-follow g c =
    let capacity = c.args.rings.now.capacity in
    let days = drop (length c.args.calendar.now - capacity) c.args.calendar.now in
    let new = c.advance_rings.new.rings in
    let back = vec_back c.args.rings.now.rings.len new (drop (length new) c.args.rings.now.rings.items)
    (sym c.deref_mut.ensures.len ∙ ap length c.deref_mut.ensures.value ∙ c.requires.rings.count ∙ sym c.advance_rings.ensures.rings.count) in
    let follow : List ℤ → ℕ → List Ring → List Ring → Type 0 = λ d n old made. FollowBars c.args.day.now.bars.now c.args.day.now.events.now c.args.fed d c.args.column n old made in
    subst (follow days capacity c.args.rings.now.rings.items) (sym back)
    (subst (λ old. follow days capacity old new) c.deref_mut.ensures.value
    (subst (λ n. follow days n c.deref_mut.result.now new) (part_long c.args.calendar.now capacity c.requires.fits)
    (subst (λ d. follow d (length (take (length c.args.calendar.now - (length c.args.calendar.now - capacity)) days)) c.deref_mut.result.now new) (part_is c.args.calendar.now capacity)
    c.advance_rings.ensures.follow)))

pub returns-clause-rings : goal.returns-clause-rings
returns-clause-rings g c =
    let new = c.advance_rings.new.rings in
    let back = vec_back c.args.rings.now.rings.len new (drop (length new) c.args.rings.now.rings.items)
    (sym c.deref_mut.ensures.len ∙ ap length c.deref_mut.ensures.value ∙ c.requires.rings.count ∙ sym c.advance_rings.ensures.rings.count) in
    subst (AreRings (length c.args.row.now) c.args.rings.now.capacity) (sym back)
    (subst (λ n. AreRings (length c.args.row.now) n new) (part_long c.args.calendar.now c.args.rings.now.capacity c.requires.fits) c.advance_rings.ensures.rings)

pub returns-clause-cost : goal.returns-clause-cost
returns-clause-cost g c =
    c.advance_rings.ensures.cost
    ∙ ap (λ n. c.args.steps.now + length (scaling c.args.column c.args.day.now.events.now) * min n c.args.fed) (part_long c.args.calendar.now c.args.rings.now.capacity c.requires.fits)
