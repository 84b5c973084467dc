use Rattle.std.proofs.Common.{length, drop, get_or, pos, ap, sym, refl, ◌∙◌, arith, subst, List, All}
use Rattle.pl_spec.specs.Rounding.{IsCell}
use Rattle.pl_daily.specs.Changes.{Ring, AreRings, pushed, ring_at}
use Rattle.pl_daily.proofs.Advances.{vec_back, rings_pushed}
use Rattle.pl_daily.proofs.DayByDay.{follow_term}
use Rattle.pl_daily.proofs.held.put_term.Goals as goal

pub returns-then-cells-gt0-clause-follow : goal.returns-then-cells-gt0-clause-follow
returns-then-cells-gt0-clause-follow c =
    let old = c.args.cells.now in
    let is = c.copy_from_slice.ensures.items in
    let back = vec_back old.rings.rings.len c.push_row.new.rings (drop (length c.push_row.new.rings) old.rings.rings.items) (sym c.deref_mut.ensures.len ∙ sym c.push_row.ensures.count) in
    let many = ap length c.deref_mut.ensures.value ∙ (c.requires.cells.rings c.if-cells-gt0.true).count in
    follow_term c.args.row.now old _ is refl c.requires.cells
    (λ some i h. ap (λ (l : List Ring). ring_at l i) back ∙ c.push_row.ensures.each i (omega (arith, h, many))
    ∙ ap (λ (l : List Ring). pushed (get_or c.args.row.now i (pos 0)) (ring_at l i)) c.deref_mut.ensures.value)

pub returns-then-cells-gt0-clause-cells : goal.returns-then-cells-gt0-clause-cells
returns-then-cells-gt0-clause-cells c =
    let old = c.args.cells.now in
    let is = c.copy_from_slice.ensures.items in
    let back = vec_back old.rings.rings.len c.push_row.new.rings (drop (length c.push_row.new.rings) old.rings.rings.items) (sym c.deref_mut.ensures.len ∙ sym c.push_row.ensures.count) in
    let lent : AreRings (length c.args.row.now) old.rings.capacity c.deref_mut.result.now =
    subst (AreRings (length c.args.row.now) old.rings.capacity) (sym c.deref_mut.ensures.value) (c.requires.cells.rings c.if-cells-gt0.true) in
    record {
      row = ap length is;
      cells = subst (All IsCell) (sym is) c.requires.row;
      rings = λ some. subst (AreRings (length c.args.row.now) old.rings.capacity) (sym back)
          (rings_pushed old.rings.capacity c.deref_mut.result.now c.push_row.new.rings c.args.row.now c.push_row.ensures.count lent refl c.requires.row c.push_row.ensures.each);
    }
