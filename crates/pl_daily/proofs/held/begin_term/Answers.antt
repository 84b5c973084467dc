use Rattle.std.proofs.Common.{◌<◌, ◌∙◌, ap, sym, subst, arith, length, replicate, All, FitsSigned, w64}
use Rattle.std.proofs.lemmas.List.{length-replicate}
use Rattle.std.proofs.lemmas.Int.{to_z-of_z}
use Rattle.circular_buffer.specs.Buffer.{buffer}
use Rattle.pl_spec.specs.Rounding.{IsCell}
use Rattle.pl_daily.specs.Changes.{AreRings}
use Rattle.pl_daily.proofs.Full.{all_one}
use Rattle.pl_daily.proofs.DayByDay.{begin_term}
use Rattle.pl_daily.proofs.held.begin_term.Goals as goal

pub returns-clause-cells : goal.returns-clause-cells
returns-clause-cells c =
    let e : FitsSigned w64 c.args.empty = c.ranges.empty in
    let row = simp to_z-of_z at (c.in_ok-row.ensures.items_if_clones_equal (λ y same. same)) in
    record {
      row = ap length row ∙ length-replicate c.args.assets c.args.empty;
      cells = subst (All IsCell) (sym row) (all_one c.args.assets c.args.empty c.requires);
      rings = λ some.
          let has : 0 < c.args.capacity = omega (arith, some, c.in_ok-rings.ensures.capacity) in
          subst (λ n. AreRings c.args.assets n c.in_ok-rings.rings.rings.items) (sym c.in_ok-rings.ensures.capacity)
          (subst (λ n. AreRings n c.args.capacity c.in_ok-rings.rings.rings.items) (c.ring_count.ensures has) c.in_ok-rings.ensures.rings);
    }

pub returns-clause-begins : goal.returns-clause-begins
returns-clause-begins c =
    let e : FitsSigned w64 c.args.empty = c.ranges.empty in
    let row = simp to_z-of_z at (c.in_ok-row.ensures.items_if_clones_equal (λ y same. same)) in
    let rings = simp to_z-of_z at c.in_ok-rings.ensures.items in
    begin_term c.args.assets c.args.capacity c.args.empty (record { row = c.in_ok-row.row; rings = c.in_ok-rings.rings }) row c.in_ok-rings.ensures.capacity
    (λ some. rings ∙ ap (λ n. replicate n (buffer (replicate c.args.capacity c.args.empty) c.args.capacity)) (c.ring_count.ensures some))
